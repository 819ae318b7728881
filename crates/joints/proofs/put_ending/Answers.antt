use Rattle.joints.specs.Line.{ending}
use Rattle.node.specs.Total.{kept_of}
use Rattle.pen.specs.Draws.{stays, of_end}
use Rattle.parts.specs.Lines.{closes}
use Rattle.joints.proofs.Laws.{ending-line}
use Rattle.joints.proofs.put_ending.Goals as goal

pub returns-in-Entry : goal.returns-in-Entry
unfolding ending
returns-in-Entry c = rw c.in-Entry.is stays

pub returns-in-Value : goal.returns-in-Value
unfolding ending closes kept_of
returns-in-Value c = rw c.in-Value.is c.put_close.ensures

pub returns-in-Below : goal.returns-in-Below
returns-in-Below c = rw (ending-line _ _ _ _ c.in-Below.is) (of_end c.end_line.ensures)

pub returns-in-Key : goal.returns-in-Key
unfolding ending
returns-in-Key c = rw c.in-Key.is (c.put_colon.ensures.drawn _ _ _)
