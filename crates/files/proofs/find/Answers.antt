-- `files::find` meets its contract.
use mathlib.Core.Path.{ap}
use Rattle.spot.specs.declared.Spot.{Spot}
use Rattle.spot.specs.Spot.{spot_of, spot_at}
use Rattle.files.specs.Scan.{step_at}
use Rattle.files.proofs.Laws.{found-stop, found-more, found_none}
use Rattle.files.proofs.find.Goals as goal

pub returns-in-Some : goal.returns-in-Some
unfolding step_at spot_of spot_at
returns-in-Some c = found-stop _ _ _ _ _ _ c.loop.invariant c.loop-test.true (ap (λ (x : Spot). x.next) c.spot_at.ensures.is) c.in-Some.ensures

pub loop-preserved : goal.loop-preserved
unfolding step_at spot_of spot_at
loop-preserved c = found-more _ _ _ _ _ _ c.loop.invariant c.loop-test.true (ap (λ (x : Spot). x.next) c.spot_at.ensures.is) c.in_default.ensures

pub returns : goal.returns
returns c = found_none _ _ _ _ c.loop.invariant c.loop-test.false
