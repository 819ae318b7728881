-- `scalar::unsafe_in_flow`: what is left of the text is as unsafe as all of it.
use Rattle.std.proofs.Common.{◌≡◌, drop}
use Rattle.laws.specs.Somewhere.{some_at}
use Rattle.scalar.specs.Tests.{unsafe_at}
use Rattle.scalar.proofs.unsafe_in_flow.Given as goal

abbrev pub invariant-loop-i : goal.invariant-loop-i
invariant-loop-i l = some_at 32 unsafe_at (drop l.i l.t) ≡ some_at 32 unsafe_at l.t
