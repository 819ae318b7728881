use lib.Seq.{set_out}
use Rattle.pen.specs.Pen.{unput}
use Rattle.pen.proofs.Texts.{paged}
use Rattle.pen.proofs.Kept.{says, same-state, less-len}
use Rattle.pen.proofs.Writer.dropped.Goals as goal

pub returns-then-len-out : goal.returns-then-len-out
unfolding unput
returns-then-len-out c = rw c.len-len.ensures.0 (paged (says _ (less-len _ c.requires) (same-state _)))

pub returns-else-len-out : goal.returns-else-len-out
unfolding unput
returns-else-len-out c = rw (set_out _ _ _ (rw c.len-len.ensures.0 at c.if-len-out.false)) (paged (says _ (less-len _ c.requires) (same-state _)))
