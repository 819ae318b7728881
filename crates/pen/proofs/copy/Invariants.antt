-- `pen::copy`: so much of the text is copied.
use Rattle.std.proofs.Common.{◌≡◌, take}
use Rattle.pen.proofs.copy.Given as goal

abbrev pub invariant-loop-i : goal.invariant-loop-i
invariant-loop-i l = take l.i l.out ≡ take l.i l.t
