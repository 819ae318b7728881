use Rattle.pen.specs.Runs.{run-start, run_on}
use Rattle.pieces.proofs.run_end.Goals as goal

pub loop-i-init : goal.loop-i-init
loop-i-init c = run-start _ _ _ c.requires

pub loop-i-preserved : goal.loop-i-preserved
loop-i-preserved c = run_on _ _ _ _ c.loop-i.invariant c.loop-i-test.true (c.is_own.ensures c.if-not-is_own.false)
