-- `quoted::scan_turn` meets its contract.
use native.Mathlib.Omega.{arith}
use Rattle.pieces.specs.Piece.{beside-few}
use Rattle.quoted.proofs.Folds.{measured-piece, measured-run}
use Rattle.quoted.proofs.scan_turn.Goals as goal

pub overflow_add-result-then-j-i-2 : goal.overflow_add-result-then-j-i-2
overflow_add-result-then-j-i-2 c = let h = c.requires in omega (arith, c.others.ensures, beside-few c.piece_at-p.result)

pub returns-then-j-i : goal.returns-then-j-i
returns-then-j-i c = record { sum = measured-piece _ c.args.t.now c.args.i c.requires.i_in_bounds.0 _ _ _ _ _ c.requires.t_value c.piece_at-p.ensures c.columns.ensures.0 c.others.ensures; grows = omega (arith, c.columns.ensures.1); on = omega arith; upto = let h = c.requires in omega (arith, c.others.ensures, beside-few c.piece_at-p.result) }

pub returns : goal.returns
returns c = let o = c.run_end-j.ensures.on in let n = c.if-j-i.false in record { sum = measured-run _ c.args.t.now c.args.i c.run_end-j.result c.run_end-j.ensures (omega arith) _ _; grows = omega arith; on = omega arith; upto = let h = c.run_end-j.ensures.inside in omega arith }
