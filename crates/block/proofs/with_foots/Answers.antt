use mathlib.Core.Path.{refl}
use Rattle.comments.specs.Runs.{repeated}
use Rattle.block.proofs.with_foots.Goals as goal

pub returns : goal.returns
unfolding repeated
returns c = record { drawn = c.put_repeated-w.ensures; next = refl }
