-- `document::put_document` meets its contract.
use Rattle.layout.specs.Calm.{calm-drawn, calm-after}
use native.Mathlib.Omega.{arith}
use Rattle.document.proofs.Laws.{document-footed, placed-whole}
use Rattle.spot.specs.Good.{spot-good}
use Rattle.document.proofs.put_document.Goals as goal

pub put_opening-w2-requires : goal.put_opening-w2-requires
put_opening-w2-requires c = let b = calm-drawn c.requires c.put_front-w1.ensures in let r = b.ready in let g = spot-good _ _ _ r.here r.deck-small c.spot_at-x.ensures.is in (omega (arith, r.out-small), g.0.short)

pub put_root-e-requires : goal.put_root-e-requires
put_root-e-requires c = (calm-drawn (calm-drawn c.requires c.put_front-w1.ensures) c.put_opening-w2.ensures, c.spot_at-x.ensures.is, c.spot_at-x.ensures.few)

pub with_foots-requires : goal.with_foots-requires
with_foots-requires c = let b = calm-after (calm-drawn (calm-drawn c.requires c.put_front-w1.ensures) c.put_opening-w2.ensures) _ _ _ c.put_root-e.ensures.drawn in let r = b.ready in let g = spot-good _ _ _ r.here r.deck-small c.spot_at-x.ensures.is in (omega (arith, r.out-small), g.0.short)

pub returns : goal.returns
returns c = let k = c.requires.ready.here in placed-whole _ _ _ _ _ _ _ _ k c.spot_at-x.ensures.is c.put_front-w1.ensures (document-footed _ _ _ _ _ _ _ _ k c.spot_at-x.ensures.is c.put_opening-w2.ensures c.put_root-e.ensures c.with_foots.ensures)
