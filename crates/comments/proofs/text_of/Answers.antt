use Rattle.node.specs.Total.{text_of}
use Rattle.comments.proofs.text_of.Goals as goal

pub returns : goal.returns
unfolding text_of
returns c = cc
