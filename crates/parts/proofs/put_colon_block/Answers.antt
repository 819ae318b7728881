use Rattle.parts.specs.Lines.{colon_open}
use Rattle.comments.specs.Runs.{repeated}
use Rattle.node.specs.Total.{kept_of}
use Rattle.pen.specs.Draws.{both}
use Rattle.parts.proofs.put_colon_block.Goals as goal

pub returns : goal.returns
unfolding colon_open repeated kept_of
returns c = both _ _ c.put_break-w1.ensures c.put_repeated.ensures
