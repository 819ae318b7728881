use mathlib.Core.Path.{ap}
use mathlib.Core.List.{[]}
use Rattle.pen.specs.Pen.{Fields, page, with_flow}
use Rattle.pen.proofs.Kept.{says, same-counts, other-flow}
use Rattle.pen.proofs.Writer.with_flow.Goals as goal

pub returns : goal.returns
unfolding with_flow
returns c = ap (λ (w : Fields). page w []) (says _ (same-counts _) (other-flow _ _ c.requires))
