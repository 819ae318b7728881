-- `layout::put_dressed` meets its contract.
use Rattle.layout.proofs.Laws.{bare-whole}
use Rattle.layout.proofs.put_dressed.Goals as goal

pub returns : goal.returns
returns c = bare-whole _ c.put_props_compact-w1.ensures c.byte.ensures
