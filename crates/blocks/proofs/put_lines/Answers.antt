-- `blocks::put_lines` meets its contract.
use mathlib.Core.Path.{◌∙◌}
use lib.ListN.{drop_of_length-le}
use native.Mathlib.Omega.{arith}
use Rattle.definition.specs.Block.{indented}
use Rattle.pen.specs.Pen.{puts}
use Rattle.blocks.proofs.put_lines.Goals as goal

pub loop-g-smaller : goal.loop-g-smaller
loop-g-smaller c = let h = c.line_turn-g.ensures.1 in let t = c.loop-g-test.true in omega arith

pub loop-g-preserved : goal.loop-g-preserved
loop-g-preserved c = (c.line_turn-g.ensures.0 ∙ c.loop-g.invariant.0, c.line_turn-g.auto.out ∙ c.loop-g.invariant.1)

pub returns : goal.returns
unfolding indented puts
returns c = c.byte.ensures ∙ rw (drop_of_length-le _ c.loop-g-test.false) at c.loop-g.invariant.0
