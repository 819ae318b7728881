use mathlib.Core.Path.{sym, ap, ◌∙◌}
use mathlib.Core.Bool.{not}
use borrow.Author.Tests.{eq-eqb, ne_eqb}
use Rattle.definition.specs.Document.{dashes}
use Rattle.atoms.specs.Atoms.{on}
use Rattle.document.specs.Pieces.{separation_in}
use Rattle.pen.specs.Draws.{draws-yes, draws-no}
use Rattle.document.proofs.Laws.{of-dashes, of-dots, unwanted}
use Rattle.document.proofs.put_separation.Goals as goal

pub returns-then-lead-ne0 : goal.returns-then-lead-ne0
unfolding separation_in on
returns-then-lead-ne0 c = draws-yes _ _ _ (ap not (ne_eqb _ _ c.if-lead-ne0.true)) (record { drawn = λ s. c.text.ensures ∙ sym (of-dots s _) })

pub returns : goal.returns
unfolding separation_in on
returns c = draws-no _ _ _ (ap not (eq-eqb _ _ c.if-lead-ne0.false)) (unwanted _ dashes _ (λ s. of-dashes s _) (rw c.is_marked.ensures at c.put_if.ensures))
