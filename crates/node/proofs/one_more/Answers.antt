-- `node::one_more` meets its contract.
use Rattle.node.proofs.Laws.{onto-first, onto-later}
use Rattle.node.proofs.one_more.Goals as goal

pub returns-then-count-eq0 : goal.returns-then-count-eq0
returns-then-count-eq0 c = onto-first c.args.r c.args.c c.if-count-eq0.true

pub returns : goal.returns
returns c = onto-later c.args.r c.args.c c.if-count-eq0.false
