-- `parts::put_if` meets its contract.
use Rattle.pen.specs.Pen.{puts}
use Rattle.parts.proofs.put_if.Goals as goal

pub returns-then-wanted : goal.returns-then-wanted
unfolding puts
returns-then-wanted c = rw c.if-wanted.true c.byte.ensures

pub returns : goal.returns
unfolding puts
returns c = rw c.if-wanted.false
