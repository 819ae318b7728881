use native.Mathlib.Omega.{arith}
use Rattle.pen.proofs.Texts.{fills}
use Rattle.pen.proofs.fill.Goals as goal

pub returns : goal.returns
returns c = fills c.args.out.now _ c.args.at c.args.n c.args.b c.min-start.result c.min-end.result c.min-start.ensures (omega (arith, c.min-end.ensures, c.saturating_add.ensures)) (c.fill.ensures.after (λ y h. h))
