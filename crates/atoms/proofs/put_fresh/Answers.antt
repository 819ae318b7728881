use Rattle.atoms.specs.Atoms.{on}
use Rattle.atoms.proofs.Laws.{words-short, with-comment, without-comment}
use Rattle.atoms.specs.Atoms.{on-bit}
use Rattle.atoms.proofs.put_fresh.Goals as goal

pub returns-then-is_on_header : goal.returns-then-is_on_header
unfolding on
returns-then-is_on_header c = with-comment _ _ _ _ _ _ _ _ _ _ (rw c.flow-flow.ensures at c.is_on_header.ensures) c.if-is_on_header.true c.words_of-t.ensures c.marker_of.ensures c.put_commented.ensures

pub put_scalar-requires : goal.put_scalar-requires
put_scalar-requires c = (words-short _ _ c.words_of-t.ensures c.requires.1, c.requires.0)

pub returns : goal.returns
unfolding on
returns c = without-comment _ _ _ _ _ _ _ _ _ _ _ (rw c.flow-flow.ensures at c.is_on_header.ensures) c.if-is_on_header.false c.words_of-t.ensures (rw (c.flow-flow.ensures, on-bit _ _ c.is_key-key.ensures) at c.put_scalar.ensures)
