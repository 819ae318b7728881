use Rattle.joints.specs.Line.{dressed}
use Rattle.pen.specs.Draws.{stays}
use Rattle.parts.specs.Props.{of-props}
use Rattle.joints.proofs.Laws.{dressed-so}
use Rattle.joints.proofs.put_dress.Goals as goal

pub returns-in-Below : goal.returns-in-Below
unfolding dressed
returns-in-Below c = rw c.in-Below.is stays

pub returns-in_default : goal.returns-in_default
returns-in_default c = rw (dressed-so _ _ c.in_default.not-Below) (of-props _ _ c.args.x.now.lead c.put_props.ensures)
