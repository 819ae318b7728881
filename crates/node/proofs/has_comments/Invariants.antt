-- `node::has_comments` meets its contract.
use Prim.Native.Nat.{◌-◌, ◌≤◌}
use mathlib.Core.Path.{◌≡◌}
use lib.ListN.{length}
use Rattle.node.specs.Comments.{comment_from}
use Rattle.node.proofs.has_comments.Given as goal

abbrev pub invariant-loop : goal.invariant-loop
invariant-loop l = (comment_from l.deck (l.end - l.counter) l.here ≡ comment_from l.deck l.end l.initial.here) × (l.here.at ≤ length l.deck)
