-- `parts::put_before` meets its contract.
use Rattle.definition.specs.Pen.{space, indent}
use Rattle.definition.specs.Walk.{blanks}
use Rattle.definition.specs.Deck.{layout_of}
use Rattle.node.specs.Total.{kept_of}
use Rattle.pen.specs.Draws.{both, of-puts}
use Rattle.parts.specs.Lines.{before}
use Rattle.parts.proofs.put_before.Goals as goal

pub returns : goal.returns
unfolding before blanks indent kept_of layout_of
returns c = both _ _ (of-puts space _ c.again-w1.ensures) (both _ _ c.put_over-w2.ensures (of-puts space _ c.spaces.ensures))
