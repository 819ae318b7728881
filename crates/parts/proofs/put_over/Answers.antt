-- `parts::put_over` meets its contract.
use Rattle.parts.specs.Lines.{heads_over}
use Rattle.comments.specs.Runs.{repeated}
use Rattle.parts.proofs.put_over.Goals as goal

pub returns-then-pairs : goal.returns-then-pairs
unfolding heads_over repeated
returns-then-pairs c = rw c.if-pairs.true c.put_repeated.ensures

pub returns : goal.returns
unfolding heads_over
returns c = rw c.if-pairs.false c.put_above_dash.ensures
