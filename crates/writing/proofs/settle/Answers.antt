-- `writing::settle` meets its contract.
use native.Mathlib.Omega.{arith}
use Rattle.writing.proofs.Laws.{tells-over, tells-fits}
use Rattle.writing.proofs.settle.Goals as goal

pub returns-then-out-length : goal.returns-then-out-length
returns-then-out-length c = rw (c.fill.ensures.after (λ y h. h)) (tells-over _ _ (omega arith) c.if-out-length.true)

pub returns : goal.returns
returns c = tells-fits _ _ (omega arith) c.if-out-length.false
