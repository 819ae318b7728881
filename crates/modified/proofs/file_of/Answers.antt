-- `modified::file_of` meets its contract.
use Rattle.modified.proofs.Laws.{file-absent, file-changed}
use Rattle.modified.proofs.file_of.Goals as goal

pub returns-in_err-id : goal.returns-in_err-id
returns-in_err-id c = rw c.from_residual.ensures (file-absent _ _ c.requires.0 _ c.requires.1 c.in_err-id.ensures)

pub returns : goal.returns
returns c = rw c.then_some.ensures (file-changed _ _ c.requires.0 _ c.requires.1 c.in_ok-id.ensures c.local_modified.ensures)
