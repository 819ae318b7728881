-- `pieces::put_single` meets its contract.
use Rattle.pen.specs.Pen.{puts}
use Rattle.pieces.proofs.Laws.{single_pair, single_plain}
use Rattle.pieces.proofs.put_single.Goals as goal

pub returns-then-a-eq39 : goal.returns-then-a-eq39
returns-then-a-eq39 c = rw (← (single_pair _ c.if-a-eq39.true).spelled) c.put_pair.ensures

pub returns : goal.returns
unfolding puts
returns c = rw (← (single_plain _ c.if-a-eq39.false).spelled) c.byte.ensures
