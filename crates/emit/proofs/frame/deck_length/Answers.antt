-- `deck_length` reads four bytes.
use Rattle.emit.specs.Cut.{deck_length}
use Rattle.emit.proofs.frame.deck_length.Goals as goal

pub returns : goal.returns
unfolding deck_length
returns c = rw (c.word.ensures.0, c.word-2.ensures.0)
