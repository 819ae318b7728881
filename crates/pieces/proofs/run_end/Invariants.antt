use Rattle.laws.specs.Pieces.{quote_by}
use Rattle.pen.specs.Runs.{Run}
use Rattle.pieces.specs.Piece.{Own}
use Rattle.pieces.proofs.run_end.Given as goal

abbrev pub invariant-loop-i : goal.invariant-loop-i
invariant-loop-i l = Run (Own (quote_by l.single) l.stop) l.t l.from l.i
