-- `document::put_opening` meets its contract.
use mathlib.Core.Path.{sym, ◌∙◌}
use Rattle.node.specs.Total.{kept_of}
use Rattle.comments.specs.Runs.{repeated}
use Rattle.pen.specs.Draws.{both}
use Rattle.definition.specs.Document.{dashes}
use Rattle.document.specs.Pieces.{opened, start_in}
use Rattle.document.proofs.Laws.{plain-opened, of-dashes, wanted}
use Rattle.document.proofs.put_opening.Goals as goal

pub returns-then-is_plain : goal.returns-then-is_plain
returns-then-is_plain c = plain-opened _ _ _ (sym c.is_plain.ensures ∙ c.if-is_plain.true)

pub returns : goal.returns
unfolding opened repeated kept_of start_in
returns c = both _ _ c.put_repeated-w1.ensures (both _ _ (wanted _ dashes _ (λ s. of-dashes s _) (rw c.is_marked.ensures at c.put_if-w2.ensures)) c.put_repeated.ensures)
