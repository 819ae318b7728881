-- `node::has_comments` meets its contract.
use mathlib.Core.Path.{refl, ◌∙◌}
use native.Mathlib.Omega.{arith}
use Prim.Native.Nat.{◌-◌}
use lib.ListN.{length}
use Rattle.node.proofs.Laws.{first-left, next-left}
use Rattle.node.specs.Comments.{comment-is}
use Rattle.node.proofs.Laws.{comment-stop, comment-here, comment-more, comment-done}
use Rattle.node.proofs.has_comments.Goals as goal

pub loop-init : goal.loop-init
loop-init c = (rw (first-left _) refl, c.requires)

pub is_node-requires : goal.is_node-requires
is_node-requires c = tt

pub returns-then-is_node : goal.returns-then-is_node
returns-then-is_node c = comment-stop _ (length c.args.deck.now - c.loop.counter) _ _ c.is_node.ensures c.if-is_node.true ∙ c.loop.invariant.0 ∙ comment-is _ _

pub is_comment-requires : goal.is_comment-requires
is_comment-requires c = tt

pub returns-then-is_comment : goal.returns-then-is_comment
returns-then-is_comment c = comment-here _ (length c.args.deck.now - c.loop.counter) _ _ _ (let h = c.loop-test.true in omega (arith, h)) c.is_node.ensures c.if-is_node.false c.is_comment.ensures c.if-is_comment.true ∙ c.loop.invariant.0 ∙ comment-is _ _

pub next-here-requires : goal.next-here-requires
next-here-requires c = c.loop.invariant.1

pub loop-preserved : goal.loop-preserved
loop-preserved c = rw (next-left _ _) (comment-more _ (length c.args.deck.now - c.loop.counter) _ _ _ _ (let h = c.loop-test.true in omega (arith, h)) c.is_node.ensures c.if-is_node.false c.is_comment.ensures c.if-is_comment.false c.next-here.ensures.0 ∙ c.loop.invariant.0, c.next-here.ensures.1)

pub returns : goal.returns
returns c = comment-done _ (length c.args.deck.now - c.loop.counter) _ (omega arith) ∙ c.loop.invariant.0 ∙ comment-is _ _
