-- `node::subtree_end` meets its contract.
use native.Mathlib.Omega.{arith}
use mathlib.Core.Path.{refl, ◌∙◌}
use Rattle.node.specs.Total.{tree_at}
use Rattle.node.proofs.Laws.{first-left, next-left, own-within, child-after, end-onward, end-tree, nexts-more, nexts-done}
use borrow.Author.Rules.{rules}
use Prim.Native.Nat.{◌-◌}
use Rattle.node.proofs.+subtree_end.Goals as goal

pub own_at-own-requires : goal.own_at-own-requires
own_at-own-requires t c = c.requires

pub next-here-requires : goal.next-here-requires
next-here-requires t c = own-within c.args.deck.now c.args.c c.requires _ c.own_at-own.ensures

pub kids-end-requires : goal.kids-end-requires
kids-end-requires t c = own-within c.args.deck.now c.args.c c.requires _ c.own_at-own.ensures

pub loop-init : goal.loop-init
loop-init t c = ((λ pool. rw (first-left _) refl), omega arith, c.next-here.ensures.1)

pub subtree_end-here-requires : goal.subtree_end-here-requires
subtree_end-here-requires t c = let s = child-after c.args.deck.now c.args.c c.requires _ c.own_at-own.ensures _ _ c.next-here.ensures.0 c.kids-end.ensures.0 (let q = c.loop-test.true in omega arith) in let p = c.loop.invariant.1 in let q = c.loop.invariant.2 in search rules

pub loop-preserved : goal.loop-preserved
loop-preserved t c = ((λ pool. rw (next-left _ _) (nexts-more (λ d. (tree_at c.args.deck.now pool d).next) (c.kids-end.result - c.loop.counter) c.loop.here _ (let h = c.loop-test.true in omega (arith, h)) (c.subtree_end-here.ensures.tree pool) ∙ c.loop.invariant.0 pool)), (let p = c.loop.invariant.1 in let q = c.subtree_end-here.ensures.onward in omega arith), c.subtree_end-here.ensures.within)

pub returns : goal.returns
returns t c = record { tree = λ pool. nexts-done (λ d. (tree_at c.args.deck.now pool d).next) (c.kids-end.result - c.loop.counter) c.loop.here (omega arith) ∙ c.loop.invariant.0 pool ∙ end-tree c.args.deck.now c.args.c c.requires _ c.own_at-own.ensures pool _ _ c.next-here.ensures.0 c.kids-end.ensures.0; onward = (let p = c.loop.invariant.1 in let q = end-onward c.args.deck.now c.args.c c.requires _ c.own_at-own.ensures _ c.next-here.ensures.0 in omega arith); within = c.loop.invariant.2 }
