-- `quoted::fold_turn` meets its contract.
use mathlib.Core.Path.{sym, ◌∙◌}
use native.Mathlib.Omega.{arith}
use Rattle.quoted.proofs.Folds.{fold-run}
use Rattle.quoted.proofs.fold_turn.Goals as goal

pub returns-then-j-i : goal.returns-then-j-i
returns-then-j-i c = let h = c.if-j-i.true in record { same = fold-run _ c.args.t.now c.args.i c.run_end-j.result c.run_end-j.ensures c.if-j-i.true c.args.f _ _ _ _ c.text.ensures; grows = omega arith; on = c.if-j-i.true; long = c.text.auto.out }

pub fold_gap-requires : goal.fold_gap-requires
fold_gap-requires c = record {
  passing = c.requires;
  t_value = sym c.breakable_at.ensures ∙ c.if-breakable_at.true;
}

pub fold_piece-requires : goal.fold_piece-requires
fold_piece-requires c = record {
  passing = c.requires;
  t_value = sym c.breakable_at.ensures ∙ c.if-breakable_at.false;
}
