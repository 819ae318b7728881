-- `quoted::put_body` meets its contract.
use mathlib.Core.Path.{◌∙◌}
use lib.ListN.{drop_of_length-le}
use native.Mathlib.Omega.{arith}
use Rattle.laws.specs.Pieces.{body}
use Rattle.pen.specs.Pen.{puts}
use Rattle.quoted.proofs.put_body.Goals as goal

pub loop-g-smaller : goal.loop-g-smaller
loop-g-smaller c = let h = c.body_turn-g.ensures.on in let t = c.loop-g-test.true in omega arith

pub loop-g-preserved : goal.loop-g-preserved
loop-g-preserved c = (c.body_turn-g.ensures.same ∙ c.loop-g.invariant.0, c.body_turn-g.auto.out ∙ c.loop-g.invariant.1)

pub shape_of-out : goal.shape_of-out
shape_of-out c = c.loop-g.invariant.1

pub returns : goal.returns
unfolding body puts
returns c = rw (drop_of_length-le _ c.loop-g-test.false) at c.loop-g.invariant.0
