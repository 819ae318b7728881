-- `modified::kids`: a pair is two nodes.
use native.Mathlib.Omega.{arith}
use Rattle.spot.specs.Spot.{count_in}
use Rattle.modified.specs.Local.{kids_in}
use Rattle.modified.proofs.Laws.{twice-is, leaf-kids}
use Rattle.modified.proofs.kids.Goals as goal

pub overflow_mul-result : goal.overflow_mul-result
unfolding count_in
overflow_mul-result c = let e = c.requires in let z = rw c.in-Mapping.is at e in omega (arith, z)

pub returns-in-Sequence : goal.returns-in-Sequence
unfolding kids_in
returns-in-Sequence c = rw c.in-Sequence.is

pub returns-in-Mapping : goal.returns-in-Mapping
unfolding kids_in
returns-in-Mapping c = rw c.in-Mapping.is (twice-is _)

pub returns-in_default : goal.returns-in_default
returns-in_default c = leaf-kids c.args.body.now c.in_default.not-Sequence c.in_default.not-Mapping
