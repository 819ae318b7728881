-- `document::write_one` meets its contract.
use mathlib.Core.Path.{ap, ◌∙◌}
use Rattle.pen.specs.Pen.{ended}
use Rattle.document.proofs.Laws.{one-whole, of-dots, wanted}
use Rattle.definition.specs.Document.{dots}
use Rattle.document.specs.Pieces.{stop_in}
use Rattle.document.proofs.write_one.Goals as goal

pub returns : goal.returns
unfolding stop_in
returns c = c.finish.ensures ∙ ap ended (one-whole _ _ _ _ _ _ c.put_documents-v.ensures (wanted _ dots _ (λ s. of-dots s _) c.put_if-v1.ensures))
