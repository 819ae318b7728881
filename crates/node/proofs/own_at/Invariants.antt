-- `node::own_at` meets its contract.
use Prim.Native.Nat.{◌-◌, ◌≤◌}
use mathlib.Core.Path.{◌≡◌}
use lib.ListN.{length}
use Rattle.node.specs.Head.{no_lead, head_from}
use Rattle.node.proofs.own_at.Given as goal

abbrev pub invariant-loop : goal.invariant-loop
invariant-loop l = ((head_from l.deck (l.end - l.counter) no_lead l.here).place ≡ (head_from l.deck l.end no_lead l.initial.here).place) × (l.here.at ≤ length l.deck)
