-- `modified::count_changed`: a child has less of the deck; what is counted and what is left make the whole.
use Prim.Native.Nat.{◌-◌}
use lib.ListN.{length}
use Rattle.modified.proofs.Counts.{Tally}
use Rattle.modified.proofs.+count_changed.Given as goal

abbrev pub decreases-count_changed : goal.decreases-count_changed
decreases-count_changed l = length l.deck.now - l.c.at

abbrev pub invariant-loop : goal.invariant-loop
invariant-loop l = Tally l.deck (record { count = l.initial.count; kids = l.end; next = l.initial.here }) l.count l.counter l.here
