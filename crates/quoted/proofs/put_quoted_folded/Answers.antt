-- `quoted::put_quoted_folded` meets its contract.
use Rattle.quoted.proofs.Laws.{around}
use Rattle.definition.specs.Settings.{weight_of}
use Rattle.laws.specs.Leaf.{folded_at}
use Rattle.quoted.proofs.put_quoted_folded.Goals as goal

pub at_least_one-requires : goal.at_least_one-requires
at_least_one-requires c = tt

pub quote_of-q-requires : goal.quote_of-q-requires
quote_of-q-requires c = tt

pub returns : goal.returns
unfolding folded_at weight_of
returns c = rw (← c.quote_of-q.ensures, ← (rw c.column-column.ensures.0 at c.at_least_one.ensures)) (around _ _ _ _ _ _ c.byte.ensures (rw c.column-column.ensures.0 at c.put_folded.ensures) c.byte-2.ensures)
