use Rattle.joints.specs.Entries.{closing}
use Rattle.joints.proofs.closing_of.Goals as goal

pub returns-then-pairs : goal.returns-then-pairs
unfolding closing
returns-then-pairs c = rw c.if-pairs.true

pub returns-else-pairs : goal.returns-else-pairs
unfolding closing
returns-else-pairs c = rw c.if-pairs.false
