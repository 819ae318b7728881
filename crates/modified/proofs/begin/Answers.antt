-- `modified::begin` meets its contract.
use Rattle.modified.proofs.Laws.{start-passed, start-marked, start-kids}
use Rattle.modified.proofs.begin.Goals as goal

pub returns-then-is_passed : goal.returns-then-is_passed
returns-then-is_passed c = start-passed _ _ c.requires _ _ c.spot_at-x.ensures.is c.is_passed.ensures c.if-is_passed.true c.subtree_end.ensures

pub returns-then-is_marked : goal.returns-then-is_marked
returns-then-is_marked c = start-marked _ _ c.requires _ _ c.spot_at-x.ensures.is c.is_passed.ensures c.if-is_passed.false c.is_marked.ensures c.if-is_marked.true

pub returns : goal.returns
returns c = start-kids _ _ c.requires _ _ c.spot_at-x.ensures.is c.is_passed.ensures c.if-is_passed.false c.is_marked.ensures c.if-is_marked.false c.is_mapping.ensures c.kids.ensures
