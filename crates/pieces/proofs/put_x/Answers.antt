-- `pieces::put_x` meets its contract.
use Rattle.pen.specs.Pen.{and_then}
use mathlib.Core.List.{[], ◌∷◌}
use Rattle.pieces.proofs.put_x.Goals as goal

pub returns : goal.returns
returns c = and_then _ (92 ∷ 120 ∷ []) _ c.put_pair-w.ensures c.put_hex2.ensures
