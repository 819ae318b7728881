use Rattle.parts.specs.Lines.{below_open}
use Rattle.comments.specs.Runs.{repeated}
use Rattle.definition.specs.Pen.{space, indent}
use Rattle.node.specs.Total.{kept_of}
use Rattle.pen.specs.Draws.{both, of-puts}
use Rattle.parts.proofs.put_below.Goals as goal

pub returns : goal.returns
unfolding below_open repeated indent kept_of
returns c = both _ _ c.put_break-w1.ensures (both _ _ c.put_repeated-w2.ensures (of-puts space _ c.spaces.ensures))
