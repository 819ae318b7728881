use Prim.Native.Nat.{◌+◌, ◌-◌, ◌≤◌}
use lib.ListN.{length}
use Rattle.choices.proofs.Laws.{Same}
use Rattle.choices.proofs.some_comments.Given as goal

abbrev pub invariant-loop : goal.invariant-loop
invariant-loop l = Same l.deck (l.n - l.counter + 1) l.here l.n l.initial.here × (l.here.at ≤ length l.deck)
