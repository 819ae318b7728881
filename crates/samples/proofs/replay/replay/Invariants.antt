-- `replay`: each case so far is counted once.
use Prim.Native.Nat.{◌+◌, ◌≤◌}
use mathlib.Core.Path.{◌≡◌}
use lib.ListN.{length}
use Rattle.samples.proofs.replay.replay.Given as goal

abbrev pub invariant-loop : goal.invariant-loop
invariant-loop l = (l.t.good + l.t.bad + l.t.other ≡ l.counter) × (l.at ≤ length l.list)
