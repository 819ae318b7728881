-- `layout::put_bare` meets its contract.
use mathlib.Core.Path.{refl}
use Rattle.layout.proofs.Laws.{bare-none}
use Rattle.layout.proofs.put_bare.Goals as goal

pub returns-then-is_either : goal.returns-then-is_either
returns-then-is_either c = (c.put_dressed-w1.ensures, refl)

pub returns : goal.returns
returns c = (bare-none _ _ _ _ c.is_either.ensures c.if-is_either.false c.byte-w1.ensures, refl)
