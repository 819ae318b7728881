use native.Mathlib.Omega.{arith}
use mathlib.Core.Path.{refl}
use Rattle.node.specs.Ends.{left_after}
use Rattle.node.proofs.left_after.Goals as goal

pub returns-then-is_node : goal.returns-then-is_node
returns-then-is_node c = (unfold left_after in rw (← c.is_node.ensures, c.if-is_node.true, ← c.kids.ensures.0) refl, (let k = c.kids.ensures.1 in omega arith))

pub returns : goal.returns
returns c = (unfold left_after in rw (← c.is_node.ensures, c.if-is_node.false) refl, omega arith)
