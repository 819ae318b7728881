use native.Mathlib.Omega.{arith}
use Rattle.flow.proofs.Laws.{first-left, next-left, last-left, later, content-null, content-words, content-alias, content-grouped, grouped-deeper, few-grouped, key-emits, no_key, start, flow-step, flow-stop, entry-emits, group-lined, group-plain, line-whole-is, keyed-at, lined-step, lined-stop, entry_read, lined-entry-whole, after-byte, lined-whole, group-in, deeper-is, depth_small, plain-whole}
use Rattle.flow.specs.Ready.{inside, further, at-cursor, after, left-of, after-drawn, kept-length}
use Rattle.flow.proofs.Hushes.{hushed-grouped, hushed-lead, hushed-node, hushed-first, hushed-rest, hushed-last, quiet_is}
use borrow.Author.Rules.{rules}
use mathlib.Core.Bool.{true, false}
use Rattle.joints.specs.Line.{line_of}
use Rattle.spot.specs.Good.{spot-good}
use Rattle.flow.specs.Hushed.{untold, untold-in}
use Rattle.flow.proofs.+content.Goals as goal

pub content-nested-requires : goal.content-nested-requires
content-nested-requires t c = let q = c.decreases in let r = c.requires.0 in let g = c.requires.1 in let l = grouped-deeper _ false c.args.x.now _ g c.in-Sequence.is in (omega (arith, q, l, g.within), (inside r _ l g.within, few-grouped false c.args.x.now _ c.requires.2 c.in-Sequence.is, hushed-grouped _ _ _ false c.args.x.now _ c.in-Sequence.is c.requires.3))

pub content-nested-requires-in-Mapping : goal.content-nested-requires-in-Mapping
content-nested-requires-in-Mapping t c = let q = c.decreases in let r = c.requires.0 in let g = c.requires.1 in let l = grouped-deeper _ true c.args.x.now _ g c.in-Mapping.is in (omega (arith, q, l, g.within), (inside r _ l g.within, few-grouped true c.args.x.now _ c.requires.2 c.in-Mapping.is, hushed-grouped _ _ _ true c.args.x.now _ c.in-Mapping.is c.requires.3))

pub content-returns-in-Null : goal.content-returns-in-Null
content-returns-in-Null t c = content-null _ _ _ _ _ c.requires.1 c.in-Null.is c.put_null-v.ensures

pub content-returns-in-Scalar : goal.content-returns-in-Scalar
content-returns-in-Scalar t c = content-words _ _ _ _ _ _ c.requires.1 c.in-Scalar.is c.put_words-v.ensures

pub content-returns-in-Alias : goal.content-returns-in-Alias
content-returns-in-Alias t c = content-alias _ _ _ _ _ _ c.requires.1 c.in-Alias.is c.put_alias-v.ensures

pub content-returns-in-Sequence : goal.content-returns-in-Sequence
content-returns-in-Sequence t c = content-grouped _ _ _ false _ _ _ c.requires.1 c.in-Sequence.is c.nested.ensures

pub content-returns-in-Mapping : goal.content-returns-in-Mapping
content-returns-in-Mapping t c = content-grouped _ _ _ true _ _ _ c.requires.1 c.in-Mapping.is c.nested-in-Mapping.ensures

pub entry_key-entry_node-e-requires : goal.entry_key-entry_node-e-requires
entry_key-entry_node-e-requires t c = let q = c.decreases in (omega (arith, q), (c.requires.0, hushed-lead _ _ _ _ _ c.requires.1))

pub entry_key-returns-then-pairs : goal.entry_key-returns-then-pairs
entry_key-returns-then-pairs t c = key-emits _ _ _ _ _ _ _ _ _ c.if-pairs.true c.entry_node-e.ensures c.byte-v1.ensures

pub entry_key-returns : goal.entry_key-returns
entry_key-returns t c = no_key _ _ _ _ _ _ _ _ c.if-pairs.false c.requires.0.here

pub entry_node-line-requires : goal.entry_node-line-requires
entry_node-line-requires t c = let q = c.decreases in let r = c.requires.0 in let g = spot-good _ _ _ r.here r.deck-small c.spot_at-x.ensures.is in (omega (arith, q, g.1, g.2), (further r _ g.1 g.2, g.0, c.spot_at-x.ensures.few, hushed-node _ _ _ _ _ r.here c.spot_at-x.ensures.is c.requires.1))

pub entry_node-returns : goal.entry_node-returns
entry_node-returns t c = let r = c.requires.0 in at-cursor _ _ _ _ _ _ (line_of _ _ _ _ _) r.here r.deck-small c.spot_at-x.ensures.is c.line.ensures

pub flow_entries-loop-k-init : goal.flow_entries-loop-k-init
flow_entries-loop-k-init t c = rw (first-left _) (start _ _ _ _ _ _ _ _ _ _ c.requires.0, c.requires.1)

pub flow_entries-put_between-u-requires : goal.flow_entries-put_between-u-requires
flow_entries-put_between-u-requires t c = let r = c.loop-k.invariant.0.ready in let o = r.out-small in omega (arith, o)

pub flow_entries-flow_entry-e-requires : goal.flow_entries-flow_entry-e-requires
flow_entries-flow_entry-e-requires t c = let g = c.loop-k.invariant.0 in let r = g.ready in let q = c.decreases in (omega (arith, q, g.onward, r.here), (after r _ _ _ c.put_between-u.ensures, hushed-first _ _ _ _ _ _ (let h = c.loop-k-test.true in omega (arith, h)) c.loop-k.invariant.1))

pub flow_entries-loop-k-preserved : goal.flow_entries-loop-k-preserved
flow_entries-loop-k-preserved t c = rw (next-left _ _, later _) (flow-step _ _ _ _ _ _ _ _ _ _ _ _ _ _ _ _ c.loop-k.invariant.0 (let h = c.loop-k-test.true in omega (arith, h)) c.put_between-u.ensures c.flow_entry-e.ensures, hushed-rest _ _ _ _ _ _ _ (let h = c.loop-k-test.true in omega (arith, h)) c.flow_entry-e.ensures.next c.loop-k.invariant.1)

pub flow_entries-shape_of-out : goal.flow_entries-shape_of-out
flow_entries-shape_of-out t c = c.loop-k.invariant.0.size

pub flow_entries-returns : goal.flow_entries-returns
flow_entries-returns t c = flow-stop _ _ _ _ _ _ _ _ _ _ _ _ c.loop-k.invariant.0 (let z = c.loop-k-test.false in omega arith)

pub flow_entry-entry_key-k-requires : goal.flow_entry-entry_key-k-requires
flow_entry-entry_key-k-requires t c = let q = c.decreases in (omega (arith, q), c.requires)

pub flow_entry-entry_node-requires : goal.flow_entry-entry_node-requires
flow_entry-entry_node-requires t c = let q = c.decreases in let e = c.entry_key-k.ensures in (omega (arith, q, e.onward, e.within), (further (after c.requires.0 _ _ _ e.drawn) _ e.onward e.within, hushed-last _ _ _ _ _ _ e.next c.requires.1))

pub flow_entry-returns : goal.flow_entry-returns
flow_entry-returns t c = entry-emits _ _ _ _ _ _ _ _ c.entry_key-k.ensures c.entry_node.ensures

pub group-overflow_add-j : goal.group-overflow_add-j
group-overflow_add-j t c = let r = c.requires.0 in let e = c.step_of.ensures.0 in omega (arith, e, r.indent)

pub group-lined_group-requires : goal.group-lined_group-requires
group-lined_group-requires t c = let q = c.decreases in let e = c.step_of.ensures.0 in (omega (arith, q), (rw e c.requires.0, omega arith))

pub group-returns-then-is_lined : goal.group-returns-then-is_lined
group-returns-then-is_lined t c = group-lined _ _ _ _ _ _ _ _ _ _ _ (c.is_lined.ensures.told _ (quiet_is _ _ _ _ _ _ c.requires.2 c.is_quiet-quiet.ensures)) _ c.if-is_lined.true (rw c.step_of.ensures.0) c.lined_group.ensures

pub group-plain_group-requires : goal.group-plain_group-requires
group-plain_group-requires t c = let q = c.decreases in (omega (arith, q), (left-of c.requires.0 _ (omega arith), quiet_is _ _ _ _ _ _ c.requires.2 c.is_quiet-quiet.ensures))

pub group-returns : goal.group-returns
group-returns t c = group-plain _ _ _ _ _ _ _ _ _ _ _ (c.is_lined.ensures.told _ (quiet_is _ _ _ _ _ _ c.requires.2 c.is_quiet-quiet.ensures)) c.if-is_lined.false c.plain_group.ensures

pub line-content-e-requires : goal.line-content-e-requires
line-content-e-requires t c = let q = c.decreases in let p = c.requires in (omega (arith, q), (keyed-at _ _ _ _ _ _ _ c.with_key-w2.ensures (after-drawn p.0 c.put_dress-w1.ensures), p.1, p.2, p.3))

pub line-put_ending-v1-requires : goal.line-put_ending-v1-requires
line-put_ending-v1-requires t c = let p = c.requires.0 in let l = p.out-small in let a = c.put_dress-w1.auto in let b = c.content-e.auto in (search rules, omega (arith, p.here, p.deck-small))

pub line-shape_of-out : goal.line-shape_of-out
line-shape_of-out t c = let a = c.put_dress-w1.auto in let b = c.content-e.auto in let d = c.put_ending-v1.auto in search rules

pub line-returns : goal.line-returns
line-returns t c = line-whole-is _ _ _ _ _ _ _ _ _ _ _ _ _ _ _ _ _ c.is_key-key.ensures c.put_dress-w1.ensures c.key_in.ensures c.with_key-w2.ensures c.content-e.ensures c.with_key-v.ensures c.put_ending-v1.ensures

pub lined_entries-loop-k-init : goal.lined_entries-loop-k-init
lined_entries-loop-k-init t c = rw (first-left _) (start _ _ _ _ _ _ _ _ _ _ c.requires)

pub lined_entries-lined_entry-e-requires : goal.lined_entries-lined_entry-e-requires
lined_entries-lined_entry-e-requires t c = let g = c.loop-k.invariant in let r = g.ready in let q = c.decreases in (omega (arith, q, g.onward, r.here), r)

pub lined_entries-loop-k-preserved : goal.lined_entries-loop-k-preserved
lined_entries-loop-k-preserved t c = rw (next-left _ _) (lined-step _ _ _ _ _ _ _ _ _ _ _ _ _ _ _ _ c.loop-k.invariant (let h = c.loop-k-test.true in omega (arith, h)) (last-left _ _ c.loop-k-test.true) c.lined_entry-e.ensures)

pub lined_entries-shape_of-out : goal.lined_entries-shape_of-out
lined_entries-shape_of-out t c = c.loop-k.invariant.size

pub lined_entries-returns : goal.lined_entries-returns
lined_entries-returns t c = lined-stop _ _ _ _ _ _ _ _ _ _ _ _ c.loop-k.invariant (let z = c.loop-k-test.false in omega arith)

pub lined_entry-put_lined_before-w1-requires : goal.lined_entry-put_lined_before-w1-requires
lined_entry-put_lined_before-w1-requires t c = let r = c.requires in let g = spot-good _ _ _ c.last_of-end.ensures.within r.deck-small c.spot_at-x.ensures.is in (omega (arith, r.out-small), r.here, r.deck-small, g.0.short)

pub lined_entry-entry_key-k-requires : goal.lined_entry-entry_key-k-requires
lined_entry-entry_key-k-requires t c = let r = c.requires in let q = c.decreases in (omega (arith, q), (after-drawn r c.put_lined_before-w1.ensures, untold _ _ _ _))

pub lined_entry-line-e-requires : goal.lined_entry-line-e-requires
lined_entry-line-e-requires t c = let r = c.requires in let q = c.decreases in let l = c.last_of-end.ensures in let g = spot-good _ _ _ l.within r.deck-small c.spot_at-x.ensures.is in (omega (arith, q, l.onward, g.1, g.2), (further (after (after-drawn r c.put_lined_before-w1.ensures) _ _ _ c.entry_key-k.ensures.drawn) _ (omega (arith, l.onward, g.1)) g.2, g.0, c.spot_at-x.ensures.few, untold-in _ _ _))

pub lined_entry-put_lined_after-v1-requires : goal.lined_entry-put_lined_after-v1-requires
lined_entry-put_lined_after-v1-requires t c = let r = c.requires in let z = after (after (after-drawn r c.put_lined_before-w1.ensures) _ _ _ c.entry_key-k.ensures.drawn) _ _ _ c.line-e.ensures.drawn in let g = spot-good _ _ _ c.last_of-end.ensures.within r.deck-small c.spot_at-x.ensures.is in (omega (arith, z.out-small), omega (arith, g.2, r.deck-small))

pub lined_entry-returns : goal.lined_entry-returns
lined_entry-returns t c = let r = c.requires in lined-entry-whole _ _ _ _ _ _ _ _ _ _ c.last_of-end.ensures c.spot_at-x.ensures.is c.put_lined_before-w1.ensures (entry_read _ _ _ _ _ _ _ _ _ _ r.deck-small c.last_of-end.ensures c.spot_at-x.ensures.is c.entry_key-k.ensures c.line-e.ensures) c.put_lined_after-v1.ensures

pub lined_group-lined_entries-e-requires : goal.lined_group-lined_entries-e-requires
lined_group-lined_entries-e-requires t c = let r = c.requires.0 in let q = c.decreases in (omega (arith, q), after-byte _ _ _ _ (after-byte _ _ _ _ r c.byte-w1.ensures) c.byte-w2.ensures)

pub lined_group-spaces-v1-requires : goal.lined_group-spaces-v1-requires
lined_group-spaces-v1-requires t c = let r = c.requires.0 in let z = after (after-byte _ _ _ _ (after-byte _ _ _ _ r c.byte-w1.ensures) c.byte-w2.ensures) _ _ _ c.lined_entries-e.ensures.drawn in omega (arith, z.out-small)

pub lined_group-byte-v2-requires : goal.lined_group-byte-v2-requires
lined_group-byte-v2-requires t c = let r = c.requires.0 in let z = after (after-byte _ _ _ _ (after-byte _ _ _ _ r c.byte-w1.ensures) c.byte-w2.ensures) _ _ _ c.lined_entries-e.ensures.drawn in let k = c.spaces-v1.auto.out in omega (arith, z.out-small, k)

pub lined_group-shape_of-out : goal.lined_group-shape_of-out
lined_group-shape_of-out t c = kept-length _ (lined-whole _ _ _ _ _ _ _ _ _ _ _ c.opening_of.ensures c.closing_of.ensures c.byte-w1.ensures c.byte-w2.ensures c.lined_entries-e.ensures c.spaces-v1.ensures c.byte-v2.ensures)

pub lined_group-returns : goal.lined_group-returns
lined_group-returns t c = lined-whole _ _ _ _ _ _ _ _ _ _ _ c.opening_of.ensures c.closing_of.ensures c.byte-w1.ensures c.byte-w2.ensures c.lined_entries-e.ensures c.spaces-v1.ensures c.byte-v2.ensures

pub nested-overflow_add-flow : goal.nested-overflow_add-flow
nested-overflow_add-flow t c = let h = depth_small _ _ _ _ _ _ c.flow-flow.ensures c.requires.0 in omega (arith, h)

pub nested-with_flow-v-requires : goal.nested-with_flow-v-requires
nested-with_flow-v-requires t c = depth_small _ _ _ _ _ _ c.flow-flow.ensures c.requires.0

pub nested-group-e-requires : goal.nested-group-e-requires
nested-group-e-requires t c = let q = c.decreases in (omega (arith, q), (group-in _ _ _ _ _ _ _ c.flow-flow.ensures c.with_flow-v.ensures c.requires.0, c.requires.1, c.requires.2))

pub nested-with_flow-u-requires : goal.nested-with_flow-u-requires
nested-with_flow-u-requires t c = let h = depth_small _ _ _ _ _ _ c.flow-flow.ensures c.requires.0 in omega (arith, h)

pub nested-returns : goal.nested-returns
nested-returns t c = deeper-is _ _ _ _ _ _ _ _ _ _ _ _ _ _ _ c.flow-flow.ensures c.with_flow-v.ensures c.group-e.ensures c.with_flow-u.ensures

pub plain_group-flow_entries-e-requires : goal.plain_group-flow_entries-e-requires
plain_group-flow_entries-e-requires t c = let r = c.requires.0 in let q = c.decreases in (omega (arith, q), (after-byte _ _ _ _ r c.byte-w1.ensures, c.requires.1))

pub plain_group-byte-v1-requires : goal.plain_group-byte-v1-requires
plain_group-byte-v1-requires t c = let r = c.requires.0 in let z = after (after-byte _ _ _ _ r c.byte-w1.ensures) _ _ _ c.flow_entries-e.ensures.drawn in omega (arith, z.out-small)

pub plain_group-returns : goal.plain_group-returns
plain_group-returns t c = plain-whole _ _ _ _ _ _ _ _ _ _ c.opening_of.ensures c.closing_of.ensures c.byte-w1.ensures c.flow_entries-e.ensures c.byte-v1.ensures
