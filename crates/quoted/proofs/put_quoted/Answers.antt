-- `quoted::put_quoted` meets its contract.
use Rattle.quoted.proofs.Laws.{around}
use Rattle.laws.specs.Leaf.{quoted_at}
use Rattle.quoted.proofs.put_quoted.Goals as goal

pub quote_of-q-requires : goal.quote_of-q-requires
quote_of-q-requires c = tt

pub returns : goal.returns
unfolding quoted_at
returns c = rw (← c.quote_of-q.ensures) (around _ _ _ _ _ _ c.byte.ensures c.put_body.ensures c.byte-2.ensures)
