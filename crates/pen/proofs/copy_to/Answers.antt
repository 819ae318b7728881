use native.Mathlib.Omega.{arith}
use Rattle.pen.proofs.Texts.{stores}
use Rattle.pen.proofs.copy_to.Goals as goal

pub returns : goal.returns
returns c = stores _ _ _ _ _ _ c.min-start.ensures (omega (arith, c.min-end.ensures, c.saturating_add.ensures)) c.copy.ensures
