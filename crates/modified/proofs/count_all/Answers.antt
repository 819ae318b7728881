-- `modified::count_all` meets its contract.
use Rattle.modified.proofs.Counts.{sum_more, sum-end, sum-out}
use Rattle.modified.proofs.count_all.Goals as goal

pub returns-then-deck-here : goal.returns-then-deck-here
returns-then-deck-here c = sum-end _ _ _ _ c.loop.invariant c.if-deck-here.true

pub loop-preserved : goal.loop-preserved
loop-preserved c = sum_more _ _ _ _ c.loop.invariant c.loop-test.true c.if-deck-here.false c.count_changed-below.ensures

pub returns : goal.returns
returns c = sum-out _ _ _ _ c.loop.invariant c.loop-test.false
