-- `parts::put_props_compact` meets its contract.
use Rattle.definition.specs.Walk.{props_compact}
use Rattle.node.specs.Total.{brought_of}
use Rattle.parts.specs.Lines.{props_by}
use Rattle.parts.proofs.put_props_compact.Goals as goal

pub returns : goal.returns
unfolding props_compact props_by brought_of
returns c = c.put_both.ensures
