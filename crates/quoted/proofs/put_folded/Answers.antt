-- `quoted::put_folded` meets its contract.
use mathlib.Core.Path.{refl, ◌∙◌}
use lib.ListN.{drop_of_length-le}
use native.Mathlib.Omega.{arith}
use Rattle.laws.specs.Folded.{folded_of}
use Rattle.pen.specs.Pen.{puts}
use Rattle.quoted.proofs.put_folded.Goals as goal

pub loop-l-init : goal.loop-l-init
loop-l-init c = (refl, refl, omega arith)

pub fold_turn-l-requires : goal.fold_turn-l-requires
fold_turn-l-requires c = let t = c.loop-l-test.true in let p = c.requires in record { inside = c.loop-l-test.true; short = c.requires.0; near = let a = c.loop-l.invariant.2 in omega arith; room = let e = c.loop-l.invariant.1 in omega arith }

pub loop-l-smaller : goal.loop-l-smaller
loop-l-smaller c = let h = c.fold_turn-l.ensures.on in let t = c.loop-l-test.true in omega arith

pub loop-l-preserved : goal.loop-l-preserved
loop-l-preserved c = (c.fold_turn-l.ensures.same ∙ c.loop-l.invariant.0, c.fold_turn-l.ensures.long ∙ c.loop-l.invariant.1, (let a = c.loop-l.invariant.2 in let b = c.fold_turn-l.ensures.grows in omega arith))

pub shape_of-out : goal.shape_of-out
shape_of-out c = c.loop-l.invariant.1

pub returns : goal.returns
unfolding folded_of puts
returns c = rw (drop_of_length-le _ c.loop-l-test.false) at c.loop-l.invariant.0
