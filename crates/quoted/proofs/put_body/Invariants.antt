-- `quoted::put_body` meets its contract.
use mathlib.Core.Path.{◌≡◌}
use Prim.Native.Nat.{◌-◌}
use lib.ListN.{length, drop}
use Rattle.laws.specs.Pieces.{quote_by, body}
use Rattle.pen.specs.Pen.{pen, puts}
use Rattle.quoted.proofs.put_body.Given as goal

abbrev pub invariant-loop-g : goal.invariant-loop-g
invariant-loop-g l = (puts (body (quote_by l.single) 0 (drop l.g.at l.t)) (pen l.g.w l.out) ≡ puts (body (quote_by l.single) 0 l.t) (pen l.initial.g.w l.initial.out)) × (length l.out ≡ length l.initial.out)

abbrev pub decreases-loop-g : goal.decreases-loop-g
decreases-loop-g l = length l.t - l.g.at
