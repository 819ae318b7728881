-- `pen::copy` meets its contract.
use mathlib.Core.Path.{◌∙◌}
use native.Mathlib.Omega.{arith}
use Rattle.pen.proofs.Texts.{copied-more, copied-all}
use Rattle.pen.proofs.copy.Goals as goal

pub loop-i-preserved : goal.loop-i-preserved
loop-i-preserved c = copied-more _ _ _ c.loop-i.invariant (omega (arith, c.loop-i.auto.out, c.requires, c.loop-i-test.true)) c.loop-i-test.true

pub returns : goal.returns
returns c = copied-all _ _ _ c.loop-i.invariant (c.loop-i.auto.out ∙ c.requires) c.loop-i-test.false
