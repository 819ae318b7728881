use Rattle.block.specs.Rows.{opening_of}
use Rattle.block.proofs.put_opening.Goals as goal

pub returns-then-dashed : goal.returns-then-dashed
unfolding opening_of
returns-then-dashed c = rw c.if-dashed.true c.put_dash_block.ensures

pub returns : goal.returns
unfolding opening_of
returns c = rw c.if-dashed.false c.put_colon_block.ensures
