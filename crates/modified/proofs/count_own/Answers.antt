-- `modified::count_own` meets its contract.
use Rattle.modified.proofs.Counts.{own_is, tally-is}
use Rattle.modified.proofs.count_own.Goals as goal

pub returns : goal.returns
returns c = own_is _ _ c.requires.0 c.requires.1 _ c.file_of-file.ensures _ c.spot_at-x.ensures.is (rw (c.from.ensures, c.is_some.ensures) (tally-is _)) c.kids.ensures
