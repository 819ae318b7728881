-- `blocks::line_end` meets its contract.
use native.Mathlib.Omega.{arith}
use Rattle.pen.specs.Runs.{run-start, run_on}
use Rattle.blocks.proofs.line_end.Goals as goal

pub loop-i-init : goal.loop-i-init
loop-i-init c = (run_on _ _ _ _ (run-start _ c.args.t.now _ (let h = c.requires.0 in omega arith)) c.requires.0 c.requires.1, omega arith)

pub returns-then-t-i-eq10 : goal.returns-then-t-i-eq10
returns-then-t-i-eq10 c = c.loop-i.invariant

pub loop-i-preserved : goal.loop-i-preserved
loop-i-preserved c = (run_on _ _ _ _ c.loop-i.invariant.0 c.loop-i-test.true c.if-t-i-eq10.false, (let h = c.loop-i.invariant.1 in omega arith))

pub returns : goal.returns
returns c = c.loop-i.invariant
