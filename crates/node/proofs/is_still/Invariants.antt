-- `node::is_still` meets its contract.
use Prim.Native.Nat.{◌+◌, ◌-◌, ◌*◌}
use lib.ListN.{length}
use Rattle.node.proofs.Looking.{Going, weight}
use Rattle.node.proofs.is_still.Given as goal

abbrev pub invariant-loop-left : goal.invariant-loop-left
invariant-loop-left l = Going l.deck l.initial.left l.initial.here l.left l.here

abbrev pub decreases-loop-left : goal.decreases-loop-left
decreases-loop-left l = weight * (length l.deck - l.here.at) + l.left
