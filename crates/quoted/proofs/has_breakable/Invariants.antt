-- `quoted::has_breakable` meets its contract.
use Rattle.definition.specs.Fold.{breakable_in}
use lib.ListN.{drop}
use mathlib.Core.Bool.{true}
use mathlib.Core.Path.{◌≡◌}
use Rattle.quoted.proofs.has_breakable.Given as goal

abbrev pub invariant-loop-i : goal.invariant-loop-i
invariant-loop-i l = breakable_in l.after (drop l.i l.t) ≡ breakable_in true l.t
