-- `modified::local_modified` meets its contract.
use mathlib.Core.Path.{◌∙◌}
use Rattle.modified.specs.Local.{seen}
use Rattle.modified.proofs.Laws.{is-none}
use Rattle.modified.proofs.local_modified.Goals as goal

pub returns : goal.returns
unfolding seen
returns c = record { told = λ pool. is-none _ _ c.is_none.ensures ∙ c.look.ensures.told pool }
