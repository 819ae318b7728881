-- `node::is_still` meets its contract.
use native.Mathlib.Omega.{arith}
use Rattle.node.proofs.Looking.{start, falls, further, at-comment, done}
use Rattle.node.proofs.is_still.Goals as goal

pub loop-left-init : goal.loop-left-init
loop-left-init c = start _ _ _ c.requires.0

pub is_comment-requires : goal.is_comment-requires
is_comment-requires c = tt

pub returns-then-is_comment : goal.returns-then-is_comment
returns-then-is_comment c = at-comment _ c.loop-left.here c.loop-left.invariant.within c.loop-left.left c.loop-left-test.true _ _ c.loop-left.invariant _ c.is_comment.ensures c.if-is_comment.true

pub left_after-left-requires : goal.left_after-left-requires
left_after-left-requires c = (c.loop-left.invariant.within, c.loop-left-test.true, (let b = c.loop-left.invariant.bound in let p = c.requires in omega (arith, p.1, p.2)))

pub next-here-requires : goal.next-here-requires
next-here-requires c = c.loop-left.invariant.within

pub loop-left-smaller : goal.loop-left-smaller
loop-left-smaller c = falls _ _ c.loop-left.invariant.within _ c.loop-left-test.true _ _ c.left_after-left.ensures.0 c.left_after-left.ensures.1 c.next-here.ensures.0

pub loop-left-preserved : goal.loop-left-preserved
loop-left-preserved c = further _ _ c.loop-left.invariant.within _ c.loop-left-test.true _ _ c.loop-left.invariant _ c.is_comment.ensures c.if-is_comment.false _ _ c.left_after-left.ensures.0 c.left_after-left.ensures.1 c.next-here.ensures.0

pub returns : goal.returns
returns c = done _ _ _ _ _ c.loop-left.invariant (let z = c.loop-left-test.false in omega arith)
