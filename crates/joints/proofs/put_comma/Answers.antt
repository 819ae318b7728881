use Rattle.pen.specs.Draws.{draws-yes, draws-no, stays, of-byte}
use Rattle.definition.specs.Pen.{sign, mark}
use Rattle.joints.proofs.put_comma.Goals as goal

pub returns-then-last : goal.returns-then-last
returns-then-last c = draws-yes _ _ _ c.if-last.true stays

pub returns : goal.returns
unfolding sign
returns c = draws-no _ _ _ c.if-last.false (of-byte mark _ c.byte.ensures)
