-- `modified::look` meets its contract.
use Rattle.modified.proofs.Laws.{marked-none, one-passed, look-found, look-done}
use Rattle.modified.proofs.+look.Goals as goal

pub returns-in_err-start : goal.returns-in_err-start
returns-in_err-start t c = rw c.from_residual.ensures (marked-none _ _ _ c.in_err-start.ensures)

pub returns-in_err-here : goal.returns-in_err-here
returns-in_err-here t c = rw c.from_residual-in_err-here.ensures (look-found _ _ _ _ c.in_ok-start.ensures _ _ _ c.loop.invariant c.loop-test.true c.in_err-here.ensures)

pub loop-preserved : goal.loop-preserved
loop-preserved t c = one-passed _ _ _ _ c.in_ok-start.ensures _ _ _ c.loop.invariant c.loop-test.true c.in_ok-here.ensures c.turn-key_here.ensures

pub returns : goal.returns
returns t c = look-done _ _ _ _ c.in_ok-start.ensures _ _ _ c.loop.invariant c.loop-test.false
