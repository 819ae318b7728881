-- `node::front_at` meets its contract.
use mathlib.Core.Path.{refl, ◌∙◌}
use native.Mathlib.Omega.{arith}
use Prim.Native.Nat.{◌-◌}
use lib.ListN.{length}
use Rattle.node.proofs.Laws.{first-left, next-left}
use Rattle.node.proofs.Laws.{small-fits, small-none, small-step, front-stop, head_more, front-done, front-is}
use Rattle.node.proofs.front_at.Goals as goal

pub no_lead-lead-requires : goal.no_lead-lead-requires
no_lead-lead-requires c = tt

pub loop-init : goal.loop-init
loop-init c = (rw (first-left _) refl, c.requires, omega arith, small-none _ _ c.no_lead-lead.ensures)

pub is_node-requires : goal.is_node-requires
is_node-requires c = tt

pub returns-then-is_node : goal.returns-then-is_node
returns-then-is_node c = front-stop c.args.deck.now (length c.args.deck.now - c.loop.counter) _ _ _ c.is_node.ensures c.if-is_node.true ∙ front-is c.args.deck.now _ _ c.args.c c.loop.invariant.0 c.no_lead-lead.ensures

pub with_record-lead-requires : goal.with_record-lead-requires
with_record-lead-requires c = (c.loop.invariant.1, small-fits _ (omega arith) c.loop.invariant.3)

pub next-here-requires : goal.next-here-requires
next-here-requires c = c.loop.invariant.1

pub loop-preserved : goal.loop-preserved
loop-preserved c = rw (next-left _ _) (head_more c.args.deck.now (length c.args.deck.now - c.loop.counter) _ _ _ _ _ (let h = c.loop-test.true in omega (arith, h)) c.is_node.ensures c.if-is_node.false c.next-here.ensures.0 c.with_record-lead.ensures ∙ c.loop.invariant.0, c.next-here.ensures.1, (let p = c.loop.invariant.2 in omega arith), small-step _ _ _ _ _ _ (let h = c.loop-test.true in omega (arith, h)) c.loop.invariant.2 c.loop.invariant.3 c.with_record-lead.ensures)

pub returns : goal.returns
returns c = front-done c.args.deck.now (length c.args.deck.now - c.loop.counter) _ _ (omega arith) ∙ front-is c.args.deck.now _ _ c.args.c c.loop.invariant.0 c.no_lead-lead.ensures
