-- `layout::put_before` meets its contract.
use Rattle.pen.specs.Draws.{draws-yes, draws-no, stays}
use Rattle.layout.proofs.put_before.Goals as goal

pub returns-then-begin : goal.returns-then-begin
returns-then-begin c = draws-yes _ _ _ c.if-begin.true c.put_before.ensures

pub returns : goal.returns
returns c = draws-no _ _ _ c.if-begin.false stays
