use mathlib.Core.Path.{sym, ap, ◌∙◌}
use borrow.Author.Tests.{eqb-true, eqb-false}
use Rattle.pen.specs.Pen.{Pen, puts, put1}
use Rattle.pen.proofs.Laws.{hashed-nothing, hashed-text}
use Rattle.pen.proofs.Writer.hashed.Goals as goal

pub returns-then-is_empty : goal.returns-then-is_empty
unfolding puts
returns-then-is_empty c = rw (hashed-nothing _ (eqb-true _ _ (sym c.is_empty.ensures ∙ c.if-is_empty.true))) c.byte-w.ensures

pub returns : goal.returns
unfolding puts
returns c = rw (hashed-text _ (eqb-false _ _ (sym c.is_empty.ensures ∙ c.if-is_empty.false))) (c.text.ensures ∙ ap (puts c.args.t.now) (c.byte.ensures ∙ ap (λ (p : Pen). put1 p 32) c.byte-w.ensures))
