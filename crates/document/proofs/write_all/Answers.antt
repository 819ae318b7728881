-- `document::write_all` meets its contract.
use mathlib.Core.Path.{refl, ap, ◌∙◌}
use Rattle.pen.specs.Pen.{ended}
use Rattle.document.proofs.Laws.{all_whole}
use Rattle.document.proofs.write_all.Goals as goal

pub returns : goal.returns
returns c = c.finish.ensures ∙ ap ended (c.put_documents-v.ensures ∙ all_whole _ _ _ _ _ _ refl refl)
