use borrow.Author.Rules.{rules}
use mathlib.Core.Path.{sym}
use mathlib.Core.List.{[], ◌∷◌}
use native.Mathlib.Omega.{arith}
use Prim.Native.Nat.{◌+◌}
use lib.ListN.{length}
use lib.Seq.{set_out}
use Rattle.pen.specs.Pen.{fields, puts, column_over, column_past}
use Rattle.pen.proofs.Texts.{again_put}
use Rattle.pen.proofs.Writer.byte.Goals as goal

pub returns-then-len-out : goal.returns-then-len-out
unfolding puts column_past
returns-then-len-out c =
    let w = fields c.args.self in
    again_put w _ _ _ _ 1 c.args.b c.put_on-w.ensures (omega arith) (c.past.ensures (column_over (length c.args.out.now + 2) w.column (c.args.b ∷ [])) (λ r k. search rules)) (rw c.len-len.ensures.0)

pub returns-else-len-out : goal.returns-else-len-out
unfolding puts column_past
returns-else-len-out c =
    let w = fields c.args.self in
    again_put w _ _ _ _ 1 c.args.b c.put_on-w.ensures (omega arith) (c.past.ensures (column_over (length c.args.out.now + 2) w.column (c.args.b ∷ [])) (λ r k. search rules)) (sym (set_out _ _ _ (rw c.len-len.ensures.0 at c.if-len-out.false)))
