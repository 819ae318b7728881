-- `parts::put_props_line` meets its contract.
use Rattle.parts.proofs.Laws.{props-line, no_line}
use Rattle.parts.proofs.put_props_line.Goals as goal

pub returns-then-is_either : goal.returns-then-is_either
returns-then-is_either c = props-line _ _ _ _ _ c.is_either.ensures c.if-is_either.true c.is_some-both.ensures c.put_prop-w1.ensures c.put_prop-w2.ensures c.byte.ensures

pub returns : goal.returns
returns c = no_line _ _ _ _ c.is_either.ensures c.if-is_either.false
