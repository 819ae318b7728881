use Rattle.definition.specs.Pen.{nothing}
use Rattle.pen.specs.Pen.{ink, puts}
use Rattle.atoms.specs.Atoms.{on-bit}
use Rattle.joints.proofs.put_between.Goals as goal

pub returns-then-first : goal.returns-then-first
unfolding ink nothing puts
returns-then-first c = rw c.if-first.true

pub returns : goal.returns
unfolding ink
returns c = rw c.if-first.false (rw (on-bit _ _ c.is_key.ensures) at c.put_separator.ensures)
