-- `modified::count_changed` meets its contract.
use Rattle.modified.proofs.Counts.{tally-more, tally-done}
use Rattle.modified.proofs.+count_changed.Goals as goal

pub loop-preserved : goal.loop-preserved
loop-preserved t c = tally-more _ _ _ c.count_own-own.ensures _ _ _ c.loop.invariant c.loop-test.true c.count_changed-child.ensures

pub returns : goal.returns
returns t c = tally-done _ _ _ c.count_own-own.ensures _ _ _ c.loop.invariant c.loop-test.false
