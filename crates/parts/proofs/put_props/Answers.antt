-- `parts::put_props` meets its contract.
use Rattle.parts.specs.Lines.{props_by}
use Rattle.parts.proofs.put_props.Goals as goal

pub returns : goal.returns
unfolding props_by
returns c = c.put_both.ensures
