use mathlib.Core.Path.{refl, ◌∙◌}
use native.Mathlib.Omega.{arith}
use Rattle.comments.proofs.Laws.{first-left, next-left, turn, done}
use Rattle.comments.proofs.put_run.Goals as goal

pub loop-init : goal.loop-init
loop-init c = (record { same = λ s. rw (first-left _) refl }, refl, (let p = c.requires in omega (arith, p.1, p.2)), c.stride_of-step.ensures.0, c.stride_of-step.ensures.1)

pub put_entry-u-requires : goal.put_entry-u-requires
put_entry-u-requires c = let i = c.loop.invariant in let p = c.requires.0 in (omega (arith, p, i.1), omega (arith, i.2))

pub loop-preserved : goal.loop-preserved
loop-preserved c = rw (next-left _ _) (turn _ _ _ _ _ _ _ _ _ _ _ (let h = c.loop-test.true in omega (arith, h)) c.loop.invariant.3 c.put_entry-u.ensures c.loop.invariant.0, c.put_entry-u.auto.out ∙ c.loop.invariant.1, (let i = c.loop.invariant in omega (arith, i.2, i.4, c.loop-test.true)), c.loop.invariant.3, c.loop.invariant.4)

pub shape_of-out : goal.shape_of-out
shape_of-out c = c.loop.invariant.1

pub returns : goal.returns
returns c = done _ _ _ _ _ _ _ _ (let z = c.loop-test.false in omega arith) c.loop.invariant.0
