-- `quoted::ahead` meets its contract.
use mathlib.Core.Path.{◌≡◌}
use mathlib.Core.Bool.{true}
use Prim.Native.Nat.{◌+◌, ◌*◌, ◌-◌, ◌≤◌}
use lib.ListN.{length, drop}
use Rattle.laws.specs.Pieces.{quote_by}
use Rattle.laws.specs.Folded.{ahead_of}
use Rattle.quoted.proofs.ahead.Given as goal

abbrev pub invariant-loop-g : goal.invariant-loop-g
invariant-loop-g l = (l.g.n + ahead_of (quote_by l.single) (λ b. 1) 0 l.g.after (drop l.g.at l.t) ≡ ahead_of (quote_by l.single) (λ b. 1) 0 true (drop l.from l.t)) × (l.g.n ≤ 6 * l.g.at) × (l.g.at ≤ length l.t + 2)

abbrev pub decreases-loop-g : goal.decreases-loop-g
decreases-loop-g l = length l.t - l.g.at
