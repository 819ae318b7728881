use Rattle.joints.proofs.Laws.{last-value, last-item}
use Rattle.joints.proofs.last_of.Goals as goal

pub returns-then-pairs : goal.returns-then-pairs
returns-then-pairs c = last-value _ _ _ _ c.if-pairs.true c.subtree_end.ensures

pub returns : goal.returns
returns c = last-item _ _ _ c.if-pairs.false c.requires
