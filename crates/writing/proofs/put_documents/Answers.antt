-- `writing::put_documents` meets its contract.
use Rattle.writing.specs.Written.{script_of}
use Rattle.writing.proofs.put_documents.Goals as goal

pub returns-then-all : goal.returns-then-all
unfolding script_of
returns-then-all c = rw c.if-all.true c.write_all.ensures

pub returns : goal.returns
unfolding script_of
returns c = rw c.if-all.false c.write_one.ensures
