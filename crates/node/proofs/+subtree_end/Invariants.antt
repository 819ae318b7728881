-- `node::subtree_end` meets its contract.
use lib.ListN.{length}
use Prim.Native.Nat.{◌-◌}
use Prim.Native.Nat.{◌≤◌}
use mathlib.Core.Path.{◌≡◌}
use lib.ListN.{length}
use Rattle.definition.specs.Base.{Bytes}
use Rattle.node.specs.Total.{tree_at}
use Rattle.node.specs.Fuel.{nexts}
use Rattle.node.proofs.+subtree_end.Given as goal

abbrev pub decreases-subtree_end : goal.decreases-subtree_end
decreases-subtree_end l = length l.deck.now - l.c.at

abbrev pub invariant-loop : goal.invariant-loop
invariant-loop l = ((pool : Bytes) → nexts (λ d. (tree_at l.deck pool d).next) (l.end - l.counter) l.here ≡ nexts (λ d. (tree_at l.deck pool d).next) l.end l.initial.here) × (l.initial.here.at ≤ l.here.at) × (l.here.at ≤ length l.deck)
