use Rattle.joints.specs.Entries.{opening}
use Rattle.joints.proofs.opening_of.Goals as goal

pub returns-then-pairs : goal.returns-then-pairs
unfolding opening
returns-then-pairs c = rw c.if-pairs.true

pub returns-else-pairs : goal.returns-else-pairs
unfolding opening
returns-else-pairs c = rw c.if-pairs.false
