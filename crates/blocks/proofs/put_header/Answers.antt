use Rattle.blocks.proofs.Laws.{header-strip, header-keep, header-clip}
use Rattle.pen.specs.Pen.{puts, and_then}
use mathlib.Core.List.{[], ◌∷◌}
use Rattle.blocks.proofs.put_header.Goals as goal

pub returns-then-ends-eq0 : goal.returns-then-ends-eq0
unfolding puts
returns-then-ends-eq0 c = rw (header-strip c.args.marker c.args.t.now _ c.trailing_breaks-ends.ensures.0 c.if-ends-eq0.true) (and_then _ (_ ∷ []) (45 ∷ []) c.byte-w.ensures c.byte.ensures)

pub returns-then-ends-t : goal.returns-then-ends-t
unfolding puts
returns-then-ends-t c = rw (header-keep c.args.marker c.args.t.now _ c.trailing_breaks-ends.ensures.0 c.if-ends-eq0.false c.if-ends-t.either) (and_then _ (_ ∷ []) (43 ∷ []) c.byte-w.ensures c.byte-then-ends-t.ensures)

pub returns-else-ends-t : goal.returns-else-ends-t
unfolding puts
returns-else-ends-t c = rw (header-clip c.args.marker c.args.t.now _ c.trailing_breaks-ends.ensures.0 c.if-ends-eq0.false c.if-ends-t.false.0 c.if-ends-t.false.1) c.byte-w.ensures
