use mathlib.Core.Path.{refl}
use Rattle.blocks.proofs.Laws.{body_of}
use Rattle.blocks.proofs.put_block_body.Goals as goal

pub returns : goal.returns
returns c = body_of _ c.args.t.now _ _ _ _ _ _ c.trailing_breaks-ends.ensures.0 c.byte.ensures c.put_lines-w.ensures refl (rw c.saturating_sub.ensures at c.again.ensures)
