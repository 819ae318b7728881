use native.Mathlib.Omega.{arith}
use mathlib.Core.Path.{refl}
use Rattle.choices.proofs.Laws.{all-left, less-left, found, passed, last, none}
use Rattle.choices.proofs.some_comments.Goals as goal

pub returns-then-n-eq0 : goal.returns-then-n-eq0
returns-then-n-eq0 c = none _ _ _ c.if-n-eq0.true

pub loop-init : goal.loop-init
loop-init c = (record { same = λ pool. rw (all-left _ c.if-n-eq0.false) refl }, c.requires)

pub has_comments-requires : goal.has_comments-requires
has_comments-requires c = c.loop.invariant.1

pub returns-then-has_comments : goal.returns-then-has_comments
returns-then-has_comments c = found _ _ _ _ _ (omega arith) c.loop.invariant.1 c.has_comments.ensures c.if-has_comments.true c.loop.invariant.0

pub subtree_end-here-requires : goal.subtree_end-here-requires
subtree_end-here-requires c = c.loop.invariant.1

pub loop-preserved : goal.loop-preserved
loop-preserved c = (rw (less-left _ _ c.loop-test.true) (passed _ _ _ _ _ (omega arith) c.loop.invariant.1 c.has_comments.ensures c.if-has_comments.false c.subtree_end-here.ensures c.loop.invariant.0), c.subtree_end-here.ensures.within)

pub has_comments-requires-2 : goal.has_comments-requires-2
has_comments-requires-2 c = c.loop.invariant.1

pub returns : goal.returns
returns c = last _ _ _ _ _ _ (let z = c.loop-test.false in omega arith) c.loop.invariant.1 c.has_comments-2.ensures c.loop.invariant.0
