-- `pieces::put_u` meets its contract.
use Rattle.pen.specs.Pen.{and_then}
use mathlib.Core.List.{[], ◌∷◌}
use Rattle.pieces.proofs.Laws.{wide_digits}
use Rattle.pieces.proofs.put_u.Goals as goal

pub returns : goal.returns
returns c = rw (wide_digits _ c.requires.0 c.requires.1) (and_then _ (92 ∷ 117 ∷ []) _ c.put_pair-w.ensures (and_then _ _ _ c.put_hex2-w.ensures c.put_hex2.ensures))
