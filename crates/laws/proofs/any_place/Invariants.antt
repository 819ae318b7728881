-- `laws::any_place` meets its contract.
use Rattle.std.proofs.Common.{◌≡◌, ℕ, Bool, drop}
use Rattle.laws.specs.Somewhere.{some_at, Computes}
use Rattle.laws.proofs.any_place.Given as goal

abbrev pub invariant-loop-i : goal.invariant-loop-i
invariant-loop-i g l = (f : ℕ → ℕ → ℕ → Bool) → Computes (goal.F-post g l.test) f → some_at l.d f (drop l.i l.t) ≡ some_at l.d f l.t
