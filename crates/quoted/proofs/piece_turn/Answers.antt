-- `quoted::piece_turn` meets its contract.
use native.Mathlib.Omega.{arith}
use mathlib.Core.Path.{refl}
use Rattle.quoted.proofs.Laws.{turn, turn-single}
use Rattle.pieces.specs.Piece.{beside-few}
use Rattle.quoted.proofs.piece_turn.Goals as goal

pub returns-then-single : goal.returns-then-single
returns-then-single c = record { same = turn-single c.args.t.now c.args.i _ _ _ _ c.requires.0 c.if-single.true refl c.put_single.ensures; on = omega arith }

pub overflow_add-result-3 : goal.overflow_add-result-3
overflow_add-result-3 c = let h = c.requires in omega (arith, c.others.ensures, beside-few c.piece_at-p.result)

pub returns : goal.returns
returns c = record { same = turn _ c.args.t.now c.args.i _ _ _ _ c.requires.0 c.piece_at-p.ensures c.put_piece.ensures c.others.ensures; on = omega arith }
