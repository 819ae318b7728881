use Rattle.joints.specs.Entries.{lined_after}
use Rattle.definition.specs.Pen.{space, newline}
use Rattle.pen.specs.Draws.{both, of-byte}
use Rattle.joints.proofs.put_lined_after.Goals as goal

pub returns : goal.returns
unfolding lined_after newline
returns c = both _ _ c.put_comma-w1.ensures (both _ _ c.put_remark-w2.ensures (of-byte space _ c.byte.ensures))
