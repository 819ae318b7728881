-- `parts::put_prop` meets its contract.
use native.Mathlib.Omega.{arith}
use Rattle.pen.specs.Pen.{and_then}
use Rattle.parts.proofs.Laws.{no-prop, some-prop}
use Rattle.std.proofs.Common.{rules}
use Rattle.parts.proofs.put_prop.Goals as goal

pub returns-in_default : goal.returns-in_default
returns-in_default c = no-prop _ _ _ _ _ _ (search rules)

pub put_if-requires : goal.put_if-requires
put_if-requires c = omega (arith, c.put_if-w1, c.requires)

pub shape_of-out : goal.shape_of-out
shape_of-out c = omega (arith, c.put_if-w1, c.put_if-w2)

pub returns : goal.returns
returns c = some-prop _ _ _ _ _ _ _ _ _ _ _ _ c.in-Some.is c.text_in.ensures c.words_of.ensures (and_then _ _ _ c.put_if-w1.ensures c.put_if-w2.ensures) c.text-w3.ensures c.put_if.ensures
