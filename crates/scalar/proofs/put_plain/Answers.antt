-- `scalar::put_plain` meets its contract.
use Rattle.scalar.proofs.put_plain.Goals as goal

pub returns-then-must_quote : goal.returns-then-must_quote
returns-then-must_quote c = rw (← (rw c.column.ensures.0 at c.must_quote.ensures), c.if-must_quote.true) c.put_own.ensures

pub returns-else-must_quote : goal.returns-else-must_quote
returns-else-must_quote c = rw (← (rw c.column.ensures.0 at c.must_quote.ensures), c.if-must_quote.false) c.text.ensures
