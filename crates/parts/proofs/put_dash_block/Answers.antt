use Rattle.parts.specs.Lines.{dash_open}
use Rattle.node.specs.Total.{kept_of}
use Rattle.pen.specs.Draws.{both}
use Rattle.parts.proofs.put_dash_block.Goals as goal

pub returns : goal.returns
unfolding dash_open kept_of
returns c = both _ _ c.put_break-w1.ensures c.put_below_dash.ensures
