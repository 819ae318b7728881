use Rattle.scalar.proofs.Laws.{comma-break, comma-space}
use Rattle.definition.specs.Settings.{weight_of}
use Rattle.definition.specs.Scalar.{separator}
use Rattle.scalar.proofs.put_separator.Goals as goal

pub returns-then-full : goal.returns-then-full
unfolding separator weight_of
returns-then-full c = rw (← (rw c.column.ensures.0 at c.line_full-full.ensures), c.if-full.true, ← c.at_least_one.ensures) (comma-break _ _ _ _ _ c.byte-w.ensures c.byte.ensures c.spaces.ensures)

pub returns-else-full : goal.returns-else-full
unfolding separator weight_of
returns-else-full c = rw (← (rw c.column.ensures.0 at c.line_full-full.ensures), c.if-full.false) (comma-space _ _ _ c.byte-w.ensures c.byte-else-full.ensures)
