-- `quoted::put_folded` meets its contract.
use mathlib.Core.Path.{◌≡◌}
use mathlib.Core.Bool.{true}
use Prim.Native.Nat.{◌+◌, ◌*◌, ◌-◌, ◌≤◌, max}
use lib.ListN.{length, drop}
use Rattle.laws.specs.Pieces.{quote_by}
use Rattle.laws.specs.Folded.{folded_of}
use Rattle.pen.specs.Pen.{pen, puts}
use Rattle.quoted.specs.Turns.{folding}
use Rattle.quoted.proofs.put_folded.Given as goal

abbrev pub invariant-loop-l : goal.invariant-loop-l
invariant-loop-l l = (puts (folded_of (quote_by l.single) (folding l.f) 0 l.l.after l.l.col (drop l.l.at l.t)) (pen l.l.w l.out) ≡ puts (folded_of (quote_by l.single) (folding l.f) 0 true l.start l.t) (pen l.initial.l.w l.initial.out)) × (length l.out ≡ length l.initial.out) × (l.l.col ≤ max l.start l.f.indent + 6 * l.l.at)

abbrev pub decreases-loop-l : goal.decreases-loop-l
decreases-loop-l l = length l.t - l.l.at
