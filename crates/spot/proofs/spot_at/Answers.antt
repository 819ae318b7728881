-- `spot::spot_at` meets its contract.
use Rattle.spot.proofs.Laws.{own-within, spot_is}
use native.Mathlib.Omega.{arith}
use Rattle.spot.specs.Good.{few-spot}
use Rattle.spot.proofs.spot_at.Goals as goal

pub body_at-body-requires : goal.body_at-body-requires
body_at-body-requires c = own-within _ c.args.c c.requires _ c.front_at-front.ensures

pub next-next-requires : goal.next-next-requires
next-next-requires c = own-within _ c.args.c c.requires _ c.front_at-front.ensures

pub returns-clause-is : goal.returns-clause-is
returns-clause-is c = spot_is _ c.args.c c.requires _ c.front_at-front.ensures _ _ c.body_at-body.ensures c.next-next.ensures.0

pub returns-clause-few : goal.returns-clause-few
returns-clause-few c = few-spot _ (λ k. omega (arith, c.type_inv.deck k)) _ _ c.requires (spot_is _ c.args.c c.requires _ c.front_at-front.ensures _ _ c.body_at-body.ensures c.next-next.ensures.0)
