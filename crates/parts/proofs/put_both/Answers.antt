-- `parts::put_both` meets its contract.
use Rattle.parts.specs.Props.{no-props}
use Rattle.parts.proofs.Laws.{props-by}
use Rattle.parts.proofs.put_both.Goals as goal

pub returns-then-is_either : goal.returns-then-is_either
returns-then-is_either c = props-by _ _ _ c.put_prop-w1.ensures c.put_prop.ensures

pub returns : goal.returns
returns c = no-props _ _ _ _ _ _ c.is_either.ensures c.if-is_either.false
