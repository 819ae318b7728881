-- `spot::body_at` meets its contract.
use mathlib.Core.Path.{ap, ◌∙◌}
use Rattle.definition.specs.Records.{record_of}
use Rattle.deck.specs.Kids.{of-kind}
use Rattle.spot.specs.declared.Body.TheVariants.{Scalar, Alias, Sequence, Mapping}
use Rattle.spot.specs.Spot.{body_of}
use Rattle.spot.proofs.Laws.{of-null}
use Rattle.spot.proofs.body_at.Goals as goal

pub returns-in-33 : goal.returns-in-33
unfolding record_of body_of
returns-in-33 c = ap Scalar c.words_at.ensures ∙ of-kind body_of c.args.deck.now c.args.c 0x21 c.kind.ensures.0 c.in-33.is

pub returns-in-34 : goal.returns-in-34
unfolding record_of body_of
returns-in-34 c = ap Alias c.text_only.ensures ∙ of-kind body_of c.args.deck.now c.args.c 0x22 c.kind.ensures.0 c.in-34.is

pub returns-in-35 : goal.returns-in-35
unfolding record_of body_of
returns-in-35 c = ap Sequence c.group_at.ensures ∙ of-kind body_of c.args.deck.now c.args.c 0x23 c.kind.ensures.0 c.in-35.is

pub returns-in-36 : goal.returns-in-36
unfolding record_of body_of
returns-in-36 c = ap Mapping c.group_at-in-36.ensures ∙ of-kind body_of c.args.deck.now c.args.c 0x24 c.kind.ensures.0 c.in-36.is

pub returns-in_default : goal.returns-in_default
returns-in_default c = let r = c.in_default.in_default-own.rest in of-null c.args.deck.now c.args.c _ c.kind.ensures.0 r.0.0.0.1 r.0.0.1 r.0.1 r.1
