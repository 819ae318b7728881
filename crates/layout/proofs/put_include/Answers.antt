use Rattle.layout.proofs.Laws.{included-whole}
use Rattle.layout.proofs.put_include.Goals as goal

pub returns : goal.returns
returns c = included-whole _ _ _ c.args.x.now _ _ c.byte-w1.ensures c.put_include_line-w2.ensures c.subtree_end-next.ensures
