use Rattle.parts.proofs.Laws.{no-remark, some-remark}
use Rattle.std.proofs.Common.{rules}
use Rattle.parts.proofs.put_remark.Goals as goal

pub returns-in_default : goal.returns-in_default
returns-in_default c = no-remark _ _ _ _ _ (search rules)

pub returns : goal.returns
returns c = some-remark _ _ _ _ _ _ _ _ _ c.in-Some.is c.trailer_in-trailer.ensures c.words_of-text.ensures c.comment.ensures
