-- `joints::put_lined_before` meets its contract.
use Rattle.joints.proofs.Laws.{before-entry}
use Rattle.joints.proofs.put_lined_before.Goals as goal

pub returns : goal.returns
returns c = before-entry _ _ _ _ _ _ c.put_key_heads-w1.ensures c.put_repeated-w2.ensures c.spaces.ensures
