-- `parts::put_break` meets its contract.
use Rattle.parts.specs.Lines.{breaks}
use Rattle.definition.specs.Pen.{space, newline}
use Rattle.pen.specs.Draws.{both, of-byte}
use Rattle.parts.proofs.Laws.{silent-break}
use Rattle.parts.proofs.put_break.Goals as goal

pub returns-then-is_silent : goal.returns-then-is_silent
returns-then-is_silent c = silent-break _ _ _ _ _ c.is_silent.ensures c.if-is_silent.true c.byte.ensures

pub returns : goal.returns
unfolding breaks newline
returns c = both _ _ c.put_props_compact-w1.ensures (both _ _ c.put_remark-w2.ensures (of-byte space _ c.byte-2.ensures))
