-- `quoted::ahead` meets its contract.
use mathlib.Core.Path.{sym, ◌∙◌}
use native.Mathlib.Omega.{arith}
use Rattle.quoted.proofs.Folds.{measured-stop, measured-end}
use Rattle.quoted.proofs.ahead.Goals as goal

pub returns-then-breakable_at : goal.returns-then-breakable_at
returns-then-breakable_at c = (measured-stop _ _ _ _ c.args.t.now _ c.loop-g-test.true c.loop-g.invariant.0 (sym c.breakable_at.ensures ∙ c.if-breakable_at.true), let a = c.loop-g.invariant.1 in let b = c.loop-g-test.true in omega arith)

pub scan_turn-g-requires : goal.scan_turn-g-requires
scan_turn-g-requires c = record {
  i_in_bounds = (c.loop-g-test.true, c.requires.1, (let a = c.loop-g.invariant.1 in let b = c.loop-g-test.true in let p = c.requires in omega arith));
  t_value = sym c.breakable_at.ensures ∙ c.if-breakable_at.false;
}

pub loop-g-smaller : goal.loop-g-smaller
loop-g-smaller c = let h = c.scan_turn-g.ensures.on in let t = c.loop-g-test.true in omega arith

pub loop-g-preserved : goal.loop-g-preserved
loop-g-preserved c = (c.scan_turn-g.ensures.sum ∙ c.loop-g.invariant.0, (let a = c.loop-g.invariant.1 in let b = c.scan_turn-g.ensures.grows in omega arith), c.scan_turn-g.ensures.upto)

pub returns : goal.returns
returns c = (measured-end _ _ _ _ c.args.t.now _ c.loop-g.invariant.0 c.loop-g-test.false, let a = c.loop-g.invariant.1 in let b = c.loop-g.invariant.2 in omega arith)
