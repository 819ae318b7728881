-- `run`: the program's three cases.
use native.Mathlib.Omega.{arith}
use mathlib.Core.Path.{ap, ◌∙◌}
use lib.ListN.{length}
use Rattle.emit.specs.Front.{blank-length}
use Rattle.emit.specs.Cut.{short-program}
use Rattle.emit.proofs.frame.Laws.{shows-stated, shows-cut}
use Rattle.emit.proofs.frame.run.Goals as goal

pub returns-then-input-lt4 : goal.returns-then-input-lt4
returns-then-input-lt4 c = rw (short-program _ c.if-input-lt4.true) c.show.ensures

pub refuse-requires : goal.refuse-requires
refuse-requires c = let b = ap length c.requires ∙ blank-length in omega arith

pub returns-then-n-gt65536 : goal.returns-then-n-gt65536
returns-then-n-gt65536 c = shows-stated _ _ _ _ c.if-input-lt4.false c.deck_length-n.ensures c.if-n-gt65536.true c.refuse.ensures

pub returns : goal.returns
returns c = shows-cut _ _ _ _ _ c.if-input-lt4.false c.deck_length-n.ensures c.if-n-gt65536.false c.min-mid.ensures c.show-2.ensures
