-- `quoted::fold_piece` meets its contract.
use native.Mathlib.Omega.{arith}
use Rattle.pieces.specs.Piece.{beside-few}
use Rattle.quoted.proofs.Folds.{fold_on}
use Rattle.quoted.proofs.fold_piece.Goals as goal

pub overflow_add-result-3 : goal.overflow_add-result-3
overflow_add-result-3 c = let h = c.requires.passing.inside in let l = c.requires.passing.short in omega (arith, c.others.ensures, beside-few c.piece_at-p.result)

pub returns : goal.returns
returns c = record { same = fold_on _ c.args.t.now c.args.i c.requires.passing.inside _ _ _ _ _ _ _ _ c.requires.t_value c.piece_at-p.ensures c.columns.ensures.0 c.others.ensures c.put_piece.ensures; grows = omega (arith, c.columns.ensures.1); on = omega arith; long = c.put_piece.auto.out }
