use native.Mathlib.Omega.{arith}
use Rattle.std.proofs.lemmas.Bool.Decides.{nat_tests}
use Rattle.pen.proofs.Laws.{some_closed}
use Rattle.pen.proofs.ends_closed.Goals as goal

pub returns-in-Some-eq10 : goal.returns-in-Some-eq10
returns-in-Some-eq10 c = let e = some_closed c.args.t.now _ c.in-Some-eq10.ensures.value in grind (arith, nat_tests)

pub returns-in-Some-eq10-2 : goal.returns-in-Some-eq10-2
returns-in-Some-eq10-2 c = let e = some_closed c.args.t.now _ c.in-Some-eq10.ensures.value in grind (arith, nat_tests)

pub returns-in_default : goal.returns-in_default
returns-in_default c = let e = some_closed c.args.t.now _ (rw c.in_default.is at c.last.ensures.value) in grind (arith, nat_tests)
