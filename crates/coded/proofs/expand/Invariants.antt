-- `expand` stays inside what is coded and inside the output.
use Rattle.std.proofs.Common.{◌≤◌, length}
use Rattle.coded.proofs.expand.Given as goal

abbrev pub invariant-loop-head : goal.invariant-loop-head
invariant-loop-head l = l.to ≤ length l.out

abbrev pub decreases-loop-head : goal.decreases-loop-head
decreases-loop-head l = length l.rest
