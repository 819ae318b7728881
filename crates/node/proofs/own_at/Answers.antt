-- `node::own_at` meets its contract.
use mathlib.Core.Path.{refl, ◌∙◌}
use native.Mathlib.Omega.{arith}
use Prim.Native.Nat.{◌-◌}
use lib.ListN.{length}
use Rattle.node.proofs.Laws.{first-left, next-left}
use Rattle.node.proofs.Laws.{own-stop, own-more, own-done, own-place}
use Rattle.node.proofs.own_at.Goals as goal

pub loop-init : goal.loop-init
loop-init c = (rw (first-left _) refl, c.requires)

pub is_node-requires : goal.is_node-requires
is_node-requires c = tt

pub returns-then-is_node : goal.returns-then-is_node
returns-then-is_node c = own-stop c.args.deck.now (length c.args.deck.now - c.loop.counter) _ _ c.is_node.ensures c.if-is_node.true ∙ c.loop.invariant.0 ∙ own-place c.args.deck.now c.args.c

pub next-here-requires : goal.next-here-requires
next-here-requires c = c.loop.invariant.1

pub loop-preserved : goal.loop-preserved
loop-preserved c = rw (next-left _ _) (own-more c.args.deck.now (length c.args.deck.now - c.loop.counter) _ _ _ (let h = c.loop-test.true in omega (arith, h)) c.is_node.ensures c.if-is_node.false c.next-here.ensures.0 ∙ c.loop.invariant.0, c.next-here.ensures.1)

pub returns : goal.returns
returns c = own-done c.args.deck.now (length c.args.deck.now - c.loop.counter) _ (omega arith) ∙ c.loop.invariant.0 ∙ own-place c.args.deck.now c.args.c
