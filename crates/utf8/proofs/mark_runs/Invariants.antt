-- `utf8::mark_runs` meets its contract. The loop's invariant: the table is right from `block` on.
use Rattle.utf8.specs.Runs.{Runs}
use Rattle.utf8.proofs.mark_runs.Given as goal

abbrev pub invariant-loop-block : goal.invariant-loop-block
invariant-loop-block l = Runs l.s l.block l.ends
