-- `parts::put_close` meets its contract.
use Rattle.parts.specs.Lines.{closes}
use Rattle.pen.specs.Draws.{both, of_end}
use Rattle.parts.proofs.Laws.{no-remark}
use Rattle.std.proofs.Common.{rules}
use Rattle.parts.proofs.put_close.Goals as goal

pub returns-then-is_none : goal.returns-then-is_none
unfolding closes
returns-then-is_none c = both _ _ (no-remark _ _ _ _ _ (search rules)) (of_end c.end_line.ensures)

pub returns : goal.returns
unfolding closes
returns c = both _ _ c.put_remark-w1.ensures (of_end c.end_line-2.ensures)
