use Rattle.pen.specs.Pen.{with_inline}
use Rattle.pen.proofs.Kept.{says, same-state, other-inline}
use Rattle.pen.proofs.Writer.with_inline.Goals as goal

pub returns : goal.returns
unfolding with_inline
returns c = says _ (other-inline _ _) (same-state _)
