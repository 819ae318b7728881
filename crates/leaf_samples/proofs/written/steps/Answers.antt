-- `steps`: no step changes the length of the output.
use native.Mathlib.Omega.{arith}
use Rattle.leaf_samples.proofs.written.steps.Goals as goal

pub follow-requires : goal.follow-requires
follow-requires c = (omega (arith, c.out-2-1.given, c.out-1.given, c.requires), omega (arith, c.numbers_of-n.ensures))
