use mathlib.Core.Path.{ap, ◌∙◌}
use Prim.Native.Nat.{ℕ, ◌+◌}
use Rattle.pen.specs.Pen.{Pen, page, fields, rawed, with_raw}
use Rattle.pen.proofs.Texts.{paged}
use Rattle.pen.proofs.Writer.replay.Goals as goal

pub returns-then-ends_closed : goal.returns-then-ends_closed
unfolding rawed
returns-then-ends_closed c = rw (← c.ends_closed.ensures, c.if-ends_closed.true) c.text-w.ensures

pub returns : goal.returns
unfolding rawed
returns c = rw (← c.ends_closed.ensures, c.if-ends_closed.false) (paged (c.with_raw.ensures ∙ ap (λ (n : ℕ). with_raw (n + 1) (fields c.text-w.result)) c.len.ensures.0) ∙ ap (λ (p : Pen). page (with_raw (p.w.len + 1) p.w) p.out) c.text-w.ensures)
