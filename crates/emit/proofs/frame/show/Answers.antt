-- `show`: what the call's answer shows.
use native.Mathlib.Omega.{arith}
use mathlib.Core.Path.{ap, ◌∙◌}
use lib.ListN.{length}
use Rattle.emit.specs.Front.{blank-length}
use Rattle.emit.proofs.frame.Laws.{shows-refusal, shows-answer}
use Rattle.emit.proofs.frame.show.Goals as goal

pub refuse-requires : goal.refuse-requires
refuse-requires c = let b = ap length c.requires ∙ blank-length in omega arith

pub returns-then-a-ne0 : goal.returns-then-a-ne0
returns-then-a-ne0 c = shows-refusal _ _ _ _ _ c.requires c.emit_roundtrip_all_with-a.ensures c.if-a-ne0.true _ _ c.refuse.ensures

pub returns : goal.returns
returns c = shows-answer _ _ _ _ _ c.requires c.emit_roundtrip_all_with-a.ensures c.if-a-ne0.false (omega arith)
