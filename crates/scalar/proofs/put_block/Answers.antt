-- `scalar::put_block` meets its contract.
use Rattle.definition.specs.Settings.{folds}
use Rattle.laws.specs.Leaf.{styled_at}
use Rattle.pen.specs.Pen.{and_then}
use Rattle.scalar.proofs.put_block.Goals as goal

pub returns-then-flow : goal.returns-then-flow
unfolding folds styled_at
returns-then-flow c = rw c.if-flow.true c.put_styled.ensures

pub returns-else-flow : goal.returns-else-flow
returns-else-flow c = rw c.if-flow.false (and_then _ _ _ c.put_header.ensures c.put_block_body.ensures)
