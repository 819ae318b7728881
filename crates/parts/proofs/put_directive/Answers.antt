use Rattle.parts.proofs.Laws.{no-directive, some-directive}
use native.Mathlib.Omega.{arith}
use Rattle.std.proofs.Common.{rules}
use Rattle.parts.proofs.put_directive.Goals as goal

pub returns-in_default : goal.returns-in_default
returns-in_default c = no-directive _ _ _ _ (search rules)

pub text-requires : goal.text-requires
text-requires c = omega (arith, c.byte-w2.auto.out, c.text-w1.auto.out, c.requires)

pub returns : goal.returns
returns c = some-directive _ _ _ _ _ _ _ _ _ _ _ c.in-Some.is c.include_in-include.ensures c.words_of.ensures c.words_of-2.ensures c.text-w1.ensures c.byte-w2.ensures c.text.ensures
