-- `modified::file_named` meets its contract.
use Rattle.modified.specs.Files.{file_named}
use Rattle.modified.proofs.file_named.Goals as goal

pub returns-in_err-origin : goal.returns-in_err-origin
unfolding file_named
returns-in_err-origin c = rw (c.in_err-origin.was, c.from_residual.ensures)

pub returns : goal.returns
unfolding file_named
returns c = rw (c.in_ok-origin.was, c.include_in-include.ensures)
