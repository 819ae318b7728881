-- `node::front_at` meets its contract.
use Prim.Native.Nat.{◌-◌, ◌≤◌}
use mathlib.Core.Path.{◌≡◌}
use lib.ListN.{length}
use Rattle.node.specs.Head.{head_from, Small}
use Rattle.node.proofs.front_at.Given as goal

abbrev pub invariant-loop : goal.invariant-loop
invariant-loop l = (head_from l.deck (l.end - l.counter) l.lead l.here ≡ head_from l.deck l.end l.initial.lead l.initial.here) × (l.here.at ≤ length l.deck) × ((l.end - l.counter) ≤ length l.deck) × Small (length l.deck - (l.end - l.counter)) l.lead
