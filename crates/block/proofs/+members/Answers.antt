use native.Mathlib.Omega.{arith}
use Rattle.definition.specs.Pen.{mark}
use Rattle.pen.specs.Draws.{of-byte}
use Rattle.flow.specs.Ready.{at-cursor}
use Rattle.layout.specs.Calm.{calm-drawn, calm-further, in-line, calm-after, calm-inside}
use Rattle.block.proofs.Laws.{first-left, next-left, later, dash-included, dash-block, dash-plain, deeper, dashed-on, dashed-under, key-explicit, key-inline, members-rows, key-below-block, key-below-line, pair_row-is, item-row, start, step, stop, under_whole, value-included, value-block, value-plain}
use Rattle.spot.specs.Good.{spot-good}
use mathlib.Core.Path.{sym, ◌∙◌, refl}
use Rattle.flow.specs.Hushed.{untold-in}
use Rattle.block.specs.Rows.{key_part}
use Rattle.block.proofs.+members.Goals as goal

pub put_dash-put_include-requires : goal.put_dash-put_include-requires
put_dash-put_include-requires t c = let p = calm-drawn c.requires.0 (of-byte mark _ c.byte-w1.ensures) in let r = p.ready in let g = spot-good _ _ _ r.here r.deck-small c.requires.1 in (r.out-small, r.here, omega (arith, g.2, r.deck-small))

pub put_dash-returns-then-is_some : goal.put_dash-returns-then-is_some
put_dash-returns-then-is_some t c = let r = c.requires.0.ready in dash-included _ _ _ _ _ _ _ _ r.here c.requires.1 c.byte-w1.ensures c.is_some.ensures c.if-is_some.true c.put_include.ensures

pub put_dash-put_dashed-requires : goal.put_dash-put_dashed-requires
put_dash-put_dashed-requires t c = let q = c.decreases in let p = calm-drawn c.requires.0 (of-byte mark _ c.byte-w1.ensures) in let r = p.ready in let g = spot-good _ _ _ r.here r.deck-small c.requires.1 in (omega (arith, q, g.1, g.2), (calm-further p _ g.1 g.2, g.0, c.requires.2, sym c.is_block.ensures ∙ c.if-is_block.true))

pub put_dash-returns-then-is_block : goal.put_dash-returns-then-is_block
put_dash-returns-then-is_block t c = let r = c.requires.0.ready in dash-block _ _ _ _ _ _ _ _ _ _ r.here r.deck-small c.requires.1 c.byte-w1.ensures c.is_some.ensures c.if-is_some.false c.is_block.ensures c.if-is_block.true c.put_dashed.ensures

pub put_dash-put_leaf-requires : goal.put_dash-put_leaf-requires
put_dash-put_leaf-requires t c = let p = calm-drawn c.requires.0 (of-byte mark _ c.byte-w1.ensures) in let r = p.ready in let g = spot-good _ _ _ r.here r.deck-small c.requires.1 in (in-line p _ _ g.1 g.2 (omega arith), g.0, c.requires.2, p.flow, p.key)

pub put_dash-returns : goal.put_dash-returns
put_dash-returns t c = let p = calm-drawn c.requires.0 (of-byte mark _ c.byte-w1.ensures) in let r = p.ready in dash-plain _ _ _ _ _ _ _ _ _ r.here r.deck-small c.requires.1 c.byte-w1.ensures c.is_some.ensures c.if-is_some.false c.is_block.ensures c.if-is_block.false c.put_leaf.ensures

pub put_dashed-put_members-e-requires : goal.put_dashed-put_members-e-requires
put_dashed-put_members-e-requires t c = let q = c.decreases in let p = c.requires.0 in let g = c.requires.1 in let d = deeper _ c.args.x.now _ g refl c.requires.3 in (omega (arith, q, d, g.within), (calm-inside (calm-drawn p (of-byte mark _ c.byte-w1.ensures)) _ _ d g.within (omega arith), g, c.requires.2))

pub put_dashed-overflow_add-i-then-on_dash_line : goal.put_dashed-overflow_add-i-then-on_dash_line
put_dashed-overflow_add-i-then-on_dash_line t c = let p = c.requires.0.column in omega (arith, p)

pub put_dashed-with_foots-requires : goal.put_dashed-with_foots-requires
put_dashed-with_foots-requires t c = let z = calm-after (calm-drawn c.requires.0 (of-byte mark _ c.byte-w1.ensures)) _ _ _ c.put_members-e.ensures.drawn in (omega (arith, z.ready.out-small), c.requires.1.short)

pub put_dashed-returns-then-on_dash_line : goal.put_dashed-returns-then-on_dash_line
put_dashed-returns-then-on_dash_line t c = dashed-on _ _ _ _ _ _ _ _ c.on_dash_line.ensures c.if-on_dash_line.true c.byte-w1.ensures c.put_members-e.ensures c.with_foots.ensures

pub put_dashed-put_under-requires : goal.put_dashed-put_under-requires
put_dashed-put_under-requires t c = let q = c.decreases in let p = c.requires.0 in let g = c.requires.1 in let d = deeper _ c.args.x.now _ g refl c.requires.3 in let v = c.item_column-j.ensures in (omega (arith, q, d, g.within), (calm-inside p _ _ d g.within v.2, g, c.requires.2, (let h = p.ready.here in let k = p.ready.deck-small in omega (arith, h, k))))

pub put_dashed-returns : goal.put_dashed-returns
put_dashed-returns t c = dashed-under _ _ _ _ _ _ _ _ c.on_dash_line.ensures c.if-on_dash_line.false c.item_column-j.ensures.0 c.put_under.ensures

pub put_key-put_question-e-requires : goal.put_key-put_question-e-requires
put_key-put_question-e-requires t c = let q = c.decreases in let p = c.requires in (omega (arith, q), (calm-drawn p.0 (of-byte mark _ c.byte-w1.ensures), p.1, p.2))

pub put_key-with_colon-requires : goal.put_key-with_colon-requires
put_key-with_colon-requires t c = let z = calm-after (calm-drawn c.requires.0 (of-byte mark _ c.byte-w1.ensures)) _ _ _ c.put_question-e.ensures.drawn in omega (arith, z.ready.out-small)

pub put_key-returns-then-is_explicit : goal.put_key-returns-then-is_explicit
put_key-returns-then-is_explicit t c = key-explicit _ _ _ _ _ _ _ _ _ c.is_explicit.ensures c.if-is_explicit.true c.byte-w1.ensures c.put_question-e.ensures c.with_colon.ensures

pub put_key-line-requires : goal.put_key-line-requires
put_key-line-requires t c = let p = c.requires in (p.0.ready, p.1, p.2, untold-in _ _ _)

pub put_key-returns : goal.put_key-returns
put_key-returns t c = key-inline _ _ _ _ _ _ _ _ _ c.is_explicit.ensures c.if-is_explicit.false c.requires.0.flow c.line.ensures

pub put_members-put_rows-requires : goal.put_members-put_rows-requires
put_members-put_rows-requires t c = let q = c.decreases in (omega (arith, q), c.requires.0)

pub put_members-returns : goal.put_members-returns
put_members-returns t c = members-rows _ _ _ _ _ _ _ _ _ c.requires.1 c.is_mapping.ensures c.count.ensures c.put_rows.ensures

pub put_question-overflow_add-j : goal.put_question-overflow_add-j
put_question-overflow_add-j t c = let p = c.requires.0 in let e = c.step_of.ensures.1 p.ready.step in omega (arith, e, p.column)

pub put_question-put_members-requires : goal.put_question-put_members-requires
put_question-put_members-requires t c = let q = c.decreases in let p = c.requires.0 in let g = c.requires.1 in let d = deeper _ c.args.x.now _ g c.is_block.ensures c.if-is_block.true in let e = c.step_of.ensures.1 p.ready.step in (omega (arith, q, d, g.within), (calm-inside (calm-drawn p c.put_dressed-w1.ensures) _ _ d g.within (omega (arith, e)), g, c.requires.2))

pub put_question-returns-then-is_block : goal.put_question-returns-then-is_block
put_question-returns-then-is_block t c = key-below-block _ _ _ _ _ _ _ _ _ c.step_of.ensures.0 refl c.is_block.ensures c.if-is_block.true c.put_dressed-w1.ensures c.put_members.ensures

pub put_question-put_key_line-requires : goal.put_question-put_key_line-requires
put_question-put_key_line-requires t c = let p = c.requires.0 in let e = c.step_of.ensures.1 p.ready.step in (in-line p _ _ (omega arith) p.ready.here (omega (arith, e)), c.requires.1, c.requires.2, p.flow, p.key)

pub put_question-returns : goal.put_question-returns
put_question-returns t c = key-below-line _ _ _ _ _ _ _ _ _ c.step_of.ensures.0 refl c.is_block.ensures c.if-is_block.false c.put_key_line.ensures

pub put_row-put_before-w1-requires : goal.put_row-put_before-w1-requires
put_row-put_before-w1-requires t c = let p = c.requires in let r = p.ready in let g = spot-good _ _ _ r.here r.deck-small c.spot_at-x.ensures.is in (omega (arith, r.out-small), g.0.short)

pub put_row-put_key-e-requires : goal.put_row-put_key-e-requires
put_row-put_key-e-requires t c = let q = c.decreases in let p = c.requires in let r = p.ready in let g = spot-good _ _ _ r.here r.deck-small c.spot_at-x.ensures.is in (omega (arith, q, g.1, g.2), (calm-further (calm-drawn p c.put_before-w1.ensures) _ g.1 g.2, g.0, c.spot_at-x.ensures.few))

pub put_row-put_value-requires : goal.put_row-put_value-requires
put_row-put_value-requires t c = let q = c.decreases in let p = c.requires in let r = p.ready in let k = at-cursor _ _ _ _ _ _ (key_part _ _ _) r.here r.deck-small c.spot_at-x.ensures.is c.put_key-e.ensures in (omega (arith, q, k.onward, k.within), (calm-further (calm-after (calm-drawn p c.put_before-w1.ensures) _ _ _ k.drawn) _ k.onward k.within))

pub put_row-returns-then-pairs : goal.put_row-returns-then-pairs
put_row-returns-then-pairs t c = let r = c.requires.ready in pair_row-is _ _ _ _ _ _ _ _ _ _ _ r.here r.deck-small c.spot_at-x.ensures.is c.if-pairs.true c.put_before-w1.ensures c.put_key-e.ensures (c.put_value.ensures)

pub put_row-put_dash-requires : goal.put_row-put_dash-requires
put_row-put_dash-requires t c = let q = c.decreases in (omega (arith, q), (calm-drawn c.requires c.put_before-w1.ensures, c.spot_at-x.ensures.is, c.spot_at-x.ensures.few))

pub put_row-returns : goal.put_row-returns
put_row-returns t c = let r = c.requires.ready in item-row _ _ _ _ _ _ _ _ _ _ r.here c.spot_at-x.ensures.is c.if-pairs.false c.put_before-w1.ensures c.put_dash.ensures

pub put_rows-loop-k-init : goal.put_rows-loop-k-init
put_rows-loop-k-init t c = rw (first-left _) (start _ _ _ _ _ _ _ _ _ _ c.requires)

pub put_rows-put_row-e-requires : goal.put_rows-put_row-e-requires
put_rows-put_row-e-requires t c = let g = c.loop-k.invariant in let q = c.decreases in (omega (arith, q, g.onward, g.calm.ready.here), g.calm)

pub put_rows-loop-k-preserved : goal.put_rows-loop-k-preserved
put_rows-loop-k-preserved t c = rw (next-left _ _, later _) (step _ _ _ _ _ _ _ _ _ _ _ _ _ _ _ _ _ c.loop-k.invariant (let h = c.loop-k-test.true in omega (arith, h)) c.put_row-e.ensures)

pub put_rows-shape_of-out : goal.put_rows-shape_of-out
put_rows-shape_of-out t c = c.loop-k.invariant.size

pub put_rows-returns : goal.put_rows-returns
put_rows-returns t c = stop _ _ _ _ _ _ _ _ _ _ _ _ _ _ c.loop-k.invariant (let z = c.loop-k-test.false in omega arith)

pub put_under-put_members-e-requires : goal.put_under-put_members-e-requires
put_under-put_members-e-requires t c = let q = c.decreases in (omega (arith, q), (calm-drawn c.requires.0 c.put_opening-w1.ensures, c.requires.1, c.requires.2))

pub put_under-with_foots-requires : goal.put_under-with_foots-requires
put_under-with_foots-requires t c = let z = calm-after (calm-drawn c.requires.0 c.put_opening-w1.ensures) _ _ _ c.put_members-e.ensures.drawn in (omega (arith, z.ready.out-small), c.requires.1.short)

pub put_under-returns : goal.put_under-returns
put_under-returns t c = under_whole _ _ _ _ _ _ _ _ _ c.put_opening-w1.ensures c.put_members-e.ensures c.with_foots.ensures

pub put_value-put_include-requires : goal.put_value-put_include-requires
put_value-put_include-requires t c = let r = c.requires.ready in let g = spot-good _ _ _ r.here r.deck-small c.spot_at-x.ensures.is in (r.out-small, r.here, omega (arith, g.2, r.deck-small))

pub put_value-returns-then-is_some : goal.put_value-returns-then-is_some
put_value-returns-then-is_some t c = let r = c.requires.ready in value-included _ _ _ _ _ _ _ _ r.here c.spot_at-x.ensures.is c.is_some.ensures c.if-is_some.true c.put_include.ensures

pub put_value-put_under-requires : goal.put_value-put_under-requires
put_value-put_under-requires t c = let q = c.decreases in let p = c.requires in let r = p.ready in let g = spot-good _ _ _ r.here r.deck-small c.spot_at-x.ensures.is in let d = deeper _ c.spot_at-x.result _ g.0 c.is_block.ensures c.if-is_block.true in let v = c.value_column-j.ensures in (omega (arith, q, d, g.1, g.0.within), (calm-inside p _ _ (omega (arith, d, g.1)) g.0.within v.2, g.0, c.spot_at-x.ensures.few, omega (arith, g.2, r.deck-small)))

pub put_value-returns-then-is_block : goal.put_value-returns-then-is_block
put_value-returns-then-is_block t c = let r = c.requires.ready in value-block _ _ _ _ _ _ _ _ _ _ r.here r.deck-small c.spot_at-x.ensures.is c.is_some.ensures c.if-is_some.false c.is_block.ensures c.if-is_block.true c.value_column-j.ensures.0 c.put_under.ensures

pub put_value-overflow_add-j : goal.put_value-overflow_add-j
put_value-overflow_add-j t c = let p = c.requires in let e = c.step_of.ensures.1 p.ready.step in omega (arith, e, p.column)

pub put_value-put_leaf-requires : goal.put_value-put_leaf-requires
put_value-put_leaf-requires t c = let p = c.requires in let r = p.ready in let g = spot-good _ _ _ r.here r.deck-small c.spot_at-x.ensures.is in let e = c.step_of.ensures.1 r.step in (in-line p _ _ g.1 g.2 (omega (arith, e)), g.0, c.spot_at-x.ensures.few, p.flow, p.key)

pub put_value-returns : goal.put_value-returns
put_value-returns t c = let p = c.requires in let r = p.ready in value-plain _ _ _ _ _ _ _ _ _ _ _ r.here r.deck-small c.spot_at-x.ensures.is c.is_some.ensures c.if-is_some.false c.is_block.ensures c.if-is_block.false c.step_of.ensures.0 refl c.put_leaf.ensures
