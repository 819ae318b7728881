-- `utf8::run_end` meets its contract. The loop's invariant: the run from where it stands ends where the run from the start does; and past
use Prim.Native.Nat.{ℕ, ◌-◌, ◌≤◌}
use mathlib.Core.Path.{◌≡◌}
use mathlib.Core.Bool.{true}
use lib.ListN.{length}
use Rattle.utf8.specs.Chars.{boundary}
use Rattle.utf8.specs.Runs.{RunEnds, next_start}
use Rattle.utf8.proofs.run_end.Given as goal

abbrev pub invariant-loop-i : goal.invariant-loop-i
invariant-loop-i l = (l.i ≤ length l.s) × ((e : ℕ) → RunEnds l.s l.i e → RunEnds l.s l.at e) × (l.limit ≤ l.i → boundary l.s l.i ≡ true → next_start l.s l.limit ≡ l.i)

abbrev pub decreases-loop-i : goal.decreases-loop-i
decreases-loop-i l = length l.s - l.i
