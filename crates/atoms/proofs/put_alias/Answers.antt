use Rattle.atoms.proofs.Laws.{starred}
use Rattle.atoms.proofs.put_alias.Goals as goal

pub returns : goal.returns
returns c = starred _ _ _ _ c.words_of.ensures c.byte-w1.ensures c.text.ensures
