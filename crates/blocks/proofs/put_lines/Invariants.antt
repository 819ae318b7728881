-- `blocks::put_lines` meets its contract.
use mathlib.Core.Path.{◌≡◌}
use mathlib.Core.Bool.{true}
use Prim.Native.Nat.{◌-◌}
use lib.ListN.{length, drop}
use Rattle.definition.specs.Block.{indented}
use Rattle.pen.specs.Pen.{pen, puts}
use Rattle.blocks.proofs.put_lines.Given as goal

abbrev pub invariant-loop-g : goal.invariant-loop-g
invariant-loop-g l = (puts (indented l.indent l.g.fresh (drop l.g.at l.t)) (pen l.g.w l.out) ≡ puts (indented l.indent true l.t) (pen l.initial.g.w l.initial.out)) × (length l.out ≡ length l.initial.out)

abbrev pub decreases-loop-g : goal.decreases-loop-g
decreases-loop-g l = length l.t - l.g.at
