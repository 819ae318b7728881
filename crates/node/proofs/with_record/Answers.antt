-- `node::with_record` meets its contract.
use mathlib.Core.Path.{◌∙◌, ap}
use Rattle.definition.specs.Records.{record_of}
use Rattle.definition.specs.declared.Lines.{Lines}
use Rattle.definition.specs.declared.Record.{Record}
use Rattle.deck.specs.Kids.{of-kind}
use Rattle.node.specs.Head.{add_to, with_lines, with_heads, with_foots, with_directives}
use Rattle.node.specs.declared.Run.{Run}
use Rattle.node.proofs.Laws.{add_none}
use Rattle.node.proofs.with_record.Goals as goal

pub returns-in-1 : goal.returns-in-1
unfolding record_of add_to
returns-in-1 c = of-kind (λ (r : Record). add_to r c.args.c c.args.lead) c.args.deck.now c.args.c 0x01 c.kind.ensures.0 c.in-1.is

pub returns-in-2 : goal.returns-in-2
unfolding record_of add_to
returns-in-2 c = of-kind (λ (r : Record). add_to r c.args.c c.args.lead) c.args.deck.now c.args.c 0x02 c.kind.ensures.0 c.in-2.is

pub returns-in-3 : goal.returns-in-3
unfolding record_of add_to
returns-in-3 c = of-kind (λ (r : Record). add_to r c.args.c c.args.lead) c.args.deck.now c.args.c 0x03 c.kind.ensures.0 c.in-3.is

pub returns-in-4 : goal.returns-in-4
unfolding record_of add_to
returns-in-4 c = ap (λ (x : Run). with_heads x c.args.lead) c.one_more.ensures ∙ of-kind (λ (r : Record). add_to r c.args.c c.args.lead) c.args.deck.now c.args.c 0x04 c.kind.ensures.0 c.in-4.is

pub returns-in-5 : goal.returns-in-5
unfolding record_of add_to
returns-in-5 c = of-kind (λ (r : Record). add_to r c.args.c c.args.lead) c.args.deck.now c.args.c 0x05 c.kind.ensures.0 c.in-5.is

pub returns-in-6 : goal.returns-in-6
unfolding record_of add_to
returns-in-6 c = ap (λ (x : Run). with_foots x c.args.lead) c.one_more-in-6.ensures ∙ of-kind (λ (r : Record). add_to r c.args.c c.args.lead) c.args.deck.now c.args.c 0x06 c.kind.ensures.0 c.in-6.is

pub returns-in-7 : goal.returns-in-7
unfolding record_of add_to
returns-in-7 c = of-kind (λ (r : Record). add_to r c.args.c c.args.lead) c.args.deck.now c.args.c 0x07 c.kind.ensures.0 c.in-7.is

pub returns-in-8 : goal.returns-in-8
unfolding record_of add_to
returns-in-8 c = ap (λ (x : Run). with_directives x c.args.lead) c.one_more-in-8.ensures ∙ of-kind (λ (r : Record). add_to r c.args.c c.args.lead) c.args.deck.now c.args.c 0x08 c.kind.ensures.0 c.in-8.is

pub returns-in-9 : goal.returns-in-9
unfolding record_of add_to
returns-in-9 c = ap (λ (x : Lines). with_lines x c.args.lead) c.lines_at.ensures ∙ of-kind (λ (r : Record). add_to r c.args.c c.args.lead) c.args.deck.now c.args.c 0x09 c.kind.ensures.0 c.in-9.is

pub returns-in_default : goal.returns-in_default
returns-in_default c = let r = c.in_default.in_default-own.rest in add_none c.args.deck.now c.args.c c.args.lead _ c.kind.ensures.0 r.0.0.0.0.0.0.0.0.1 r.0.0.0.0.0.0.0.1 r.0.0.0.0.0.0.1 r.0.0.0.0.0.1 r.0.0.0.0.1 r.0.0.0.1 r.0.0.1 r.0.1 r.1
