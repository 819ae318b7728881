use mathlib.Core.Path.{refl}
use Rattle.definition.specs.Pen.{space, mark, indent, sign}
use Rattle.pen.specs.Draws.{both, of-puts, of-byte}
use Rattle.block.proofs.with_colon.Goals as goal

pub returns : goal.returns
unfolding indent sign
returns c = record { drawn = both _ _ (of-puts space _ c.spaces-v1.ensures) (of-byte mark _ c.byte-w.ensures); next = refl }
