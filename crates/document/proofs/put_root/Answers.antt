-- `document::put_root` meets its contract.
use mathlib.Core.Path.{sym, ◌∙◌}
use native.Mathlib.Omega.{arith}
use Rattle.document.proofs.Laws.{body-block, body-bare, body-line, root-asks, root-directed, root-body}
use Rattle.spot.specs.Good.{spot-good}
use Rattle.document.proofs.put_root.Goals as goal

pub put_include_line-v-requires : goal.put_include_line-v-requires
put_include_line-v-requires c = let r = c.requires.0.ready in let g = spot-good _ _ _ r.here r.deck-small c.requires.1 in (let o = r.out-small in omega (arith, o), (let d = r.deck-small in omega (arith, g.2, d)))

pub returns-then-is_directed : goal.returns-then-is_directed
returns-then-is_directed c = root-directed _ _ _ _ _ _ _ (sym c.is_directed.ensures ∙ c.if-is_directed.true) c.put_include_line-v.ensures c.subtree_end-next.ensures

pub put_block-requires : goal.put_block-requires
put_block-requires c = root-asks _ _ _ _ _ c.requires.0 c.requires.2 c.requires.1

pub returns-then-is_block : goal.returns-then-is_block
returns-then-is_block c = root-body _ _ _ _ _ _ _ c.requires.0 c.requires.1 (sym c.is_directed.ensures ∙ c.if-is_directed.false) (body-block _ _ _ _ _ (sym c.is_block.ensures ∙ c.if-is_block.true) c.put_block.ensures)

pub returns-then-bare_root : goal.returns-then-bare_root
returns-then-bare_root c = let p = c.requires.0 in let e = c.requires.1 in root-body _ _ _ _ _ _ _ p e (sym c.is_directed.ensures ∙ c.if-is_directed.false) (body-bare _ _ _ _ (spot-good _ _ _ p.ready.here p.ready.deck-small e).0 (sym c.is_block.ensures ∙ c.if-is_block.false) (sym c.bare_root.ensures ∙ c.if-bare_root.true) c.put_props_line-v.ensures)

pub put_inlined-requires : goal.put_inlined-requires
put_inlined-requires c = root-asks _ _ _ _ _ c.requires.0 c.requires.2 c.requires.1

pub returns : goal.returns
returns c = root-body _ _ _ _ _ _ _ c.requires.0 c.requires.1 (sym c.is_directed.ensures ∙ c.if-is_directed.false) (body-line _ _ _ _ _ (sym c.is_block.ensures ∙ c.if-is_block.false) (sym c.bare_root.ensures ∙ c.if-bare_root.false) c.put_inlined.ensures)
