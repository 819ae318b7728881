use Rattle.definition.specs.Pen.{mark, put}
use Rattle.pen.specs.Pen.{ink}
use mathlib.Core.Path.{refl}
use Rattle.document.specs.Pieces.{bom_in, front_in}
use Rattle.pen.specs.Draws.{draws-yes, draws-no}
use Rattle.document.proofs.Laws.{wanted}
use Rattle.document.proofs.put_front.Goals as goal

pub returns-then-first : goal.returns-then-first
unfolding front_in bom_in ink
returns-then-first c = draws-yes _ _ _ c.if-first.true (wanted _ (put mark _) _ (λ s. refl) (rw c.is_marked.ensures at c.put_if.ensures))

pub returns : goal.returns
unfolding front_in
returns c = draws-no _ _ _ c.if-first.false c.put_separation.ensures
