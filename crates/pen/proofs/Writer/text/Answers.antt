use borrow.Author.Rules.{rules}
use mathlib.Core.Path.{refl, ◌∙◌}
use Prim.Native.Nat.{◌+◌}
use lib.ListN.{length}
use Rattle.pen.specs.Pen.{fields, puts, column_over, column_past}
use Rattle.pen.proofs.Laws.{some_last, none_last}
use Rattle.pen.proofs.Texts.{text_put}
use Rattle.pen.proofs.Writer.text.Goals as goal

pub returns-in_default : goal.returns-in_default
unfolding puts
returns-in_default c = rw (none_last c.args.t.now c.in_default.ensures.value)

pub returns : goal.returns
unfolding column_past
returns c =
    let w = fields c.args.self in
    let h = some_last _ _ c.in-Some.ensures.value in
    text_put w _ _ _ _ _ _ c.put_on-w.ensures c.args.t.now h.0 (c.past.ensures (column_over (length c.args.out.now + 2) w.column c.args.t.now) (λ r k. search rules)) refl h.1 (c.copy_to.ensures ∙ rw c.len.ensures.0)
