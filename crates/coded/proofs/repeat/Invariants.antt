-- `repeat` stays inside the output.
use Rattle.std.proofs.Common.{◌≤◌, length}
use Rattle.coded.proofs.repeat.Given as goal

abbrev pub invariant-loop : goal.invariant-loop
invariant-loop l = l.end ≤ length l.out
