-- `output` is all zero.
use mathlib.Core.Path.{refl}
use Rattle.emit.specs.Front.{blank}
use Rattle.emit.proofs.frame.output.Goals as goal

pub returns : goal.returns
unfolding blank
returns c = (refl, refl)
