-- `quoted::fold_gap` meets its contract.
use mathlib.Core.Path.{◌∙◌}
use native.Mathlib.Omega.{arith}
use Rattle.quoted.specs.Turns.{folding}
use Rattle.quoted.proofs.Folds.{fold-broken, fold-kept}
use Rattle.quoted.proofs.fold_gap.Goals as goal

pub overflow_add-result : goal.overflow_add-result
overflow_add-result c = let h = c.requires.passing.inside in let l = c.requires.passing.short in omega arith

pub returns-then-need-f : goal.returns-then-need-f
returns-then-need-f c = record { same = fold-broken _ c.args.t.now c.args.i c.requires.passing.inside (folding c.args.f) _ _ _ _ _ _ c.requires.t_value c.ahead.ensures.0 c.if-need-f.true c.byte.ensures c.spaces.ensures; grows = omega arith; on = omega arith; long = c.spaces.auto.out ∙ c.byte.auto.out }

pub returns : goal.returns
returns c = record { same = fold-kept _ c.args.t.now c.args.i c.requires.passing.inside (folding c.args.f) _ _ _ _ _ c.requires.t_value c.ahead.ensures.0 c.if-need-f.false c.byte-2.ensures; grows = omega arith; on = omega arith; long = c.byte-2.auto.out }
