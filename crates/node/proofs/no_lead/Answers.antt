-- `node::no_lead` meets its contract.
use mathlib.Core.Path.{refl}
use Rattle.definition.specs.Deck.{no_lines}
use Rattle.node.proofs.no_lead.Goals as goal

pub returns : goal.returns
unfolding no_lines
returns c = refl
