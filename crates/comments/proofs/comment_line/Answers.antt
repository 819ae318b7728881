use Rattle.definition.specs.Walk.{comment_line}
use Rattle.definition.specs.Pen.{remark, space, newline, indent}
use Rattle.pen.specs.Draws.{both, of-puts, of-byte}
use Rattle.comments.proofs.comment_line.Goals as goal

pub returns : goal.returns
unfolding comment_line indent newline
returns c = both _ _ (of-puts space _ c.spaces-w1.ensures) (both _ _ (of-puts remark _ c.hashed-w2.ensures) (of-byte space _ c.byte.ensures))
