-- `joints::put_key_heads` meets its contract.
use Rattle.joints.proofs.Laws.{spot-short, key-heads, no-key-heads}
use Rattle.joints.proofs.put_key_heads.Goals as goal

pub put_repeated-requires : goal.put_repeated-requires
put_repeated-requires c = (c.requires.0, spot-short _ _ _ c.requires.1 c.requires.2 c.spot_at-x.ensures.is)

pub returns-then-pairs : goal.returns-then-pairs
returns-then-pairs c = key-heads _ _ _ _ _ _ c.if-pairs.true c.requires.1 c.spot_at-x.ensures.is c.put_repeated.ensures

pub returns : goal.returns
returns c = no-key-heads _ _ _ _ _ c.if-pairs.false
