-- `utf8::greatest` meets its contract.
use Prim.Native.Nat.{max}
use mathlib.Core.Path.{◌≡◌}
use lib.ListN.{drop}
use Rattle.utf8.specs.Chars.{most}
use Rattle.utf8.proofs.greatest.Given as goal

abbrev pub invariant-loop-b : goal.invariant-loop-b
invariant-loop-b l = most l.s ≡ max l.g (most (drop l.b-index l.s))
