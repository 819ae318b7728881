use mathlib.Core.Path.{ap, ◌∙◌}
use Prim.Native.Nat.{◌+◌}
use borrow.Author.Tests.{eq-eqb, ne_eqb}
use Rattle.definition.specs.Pen.{inline_text}
use Rattle.pen.proofs.Texts.{paged}
use Rattle.pen.specs.Pen.{Pen, page, and_then, noted, with_inline}
use Rattle.pen.proofs.Writer.comment.Goals as goal

pub returns-then-self-mark : goal.returns-then-self-mark
unfolding noted
returns-then-self-mark c = rw (eq-eqb _ _ c.if-self-mark.true)

pub returns : goal.returns
unfolding noted inline_text
returns c = rw (ne_eqb _ _ c.if-self-mark.false) (paged c.with_inline.ensures ∙ ap (λ (p : Pen). page (with_inline (c.args.place + 1) p.w) p.out) (and_then _ _ _ (rw c.at_least_one.ensures at c.spaces.ensures) c.hashed.ensures))
