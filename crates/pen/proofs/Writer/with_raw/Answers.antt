use Rattle.pen.specs.Pen.{with_raw}
use Rattle.pen.proofs.Kept.{says, same-state, other-raw}
use Rattle.pen.proofs.Writer.with_raw.Goals as goal

pub returns : goal.returns
unfolding with_raw
returns c = says _ (other-raw _ _ c.requires) (same-state _)
