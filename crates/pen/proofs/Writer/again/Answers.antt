use borrow.Author.Rules.{rules}
use mathlib.Core.Path.{◌∙◌}
use native.Mathlib.Omega.{arith}
use Prim.Native.Nat.{◌+◌}
use lib.ListN.{length, replicate}
use Rattle.pen.specs.Pen.{fields, puts, column_over, column_past}
use Rattle.pen.proofs.Texts.{again_put}
use Rattle.pen.proofs.Writer.again.Goals as goal

pub returns-then-n-eq0 : goal.returns-then-n-eq0
unfolding puts
returns-then-n-eq0 c = rw c.if-n-eq0.true

pub returns : goal.returns
unfolding column_past
returns c =
    let w = fields c.args.self in
    again_put w _ _ _ _ _ _ c.put_on-w.ensures (let h = c.if-n-eq0.false in omega (arith, h)) (c.past.ensures (column_over (length c.args.out.now + 2) w.column (replicate c.args.n c.args.b)) (λ r k. search rules)) (c.fill.ensures ∙ rw c.len.ensures.0)
