use Rattle.parts.specs.Lines.{directed}
use Rattle.definition.specs.Pen.{space, newline}
use Rattle.pen.specs.Draws.{both, of-byte}
use Rattle.parts.proofs.put_include_line.Goals as goal

pub returns : goal.returns
unfolding directed newline
returns c = both _ _ c.put_directive-w1.ensures (both _ _ c.put_remark-w2.ensures (of-byte space _ c.byte.ensures))
