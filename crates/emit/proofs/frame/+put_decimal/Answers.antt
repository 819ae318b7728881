-- `put_decimal`: the digits before the last are its own, of a number that has one less.
use native.Mathlib.Omega.{arith}
use Rattle.emit.proofs.frame.Laws.{no-digits, one-digit, more-digits}
use Rattle.emit.proofs.frame.+put_decimal.Goals as goal

pub returns-then-most-eq0 : goal.returns-then-most-eq0
returns-then-most-eq0 t c = (no-digits _ _ _ _ c.if-most-eq0.true, omega arith)

pub returns-then-n-lt10 : goal.returns-then-n-lt10
returns-then-n-lt10 t c = (one-digit _ _ _ _ _ _ c.if-most-eq0.false c.if-n-lt10.true (rw (← c.digit.ensures) c.put.ensures), (let e = c.put.ensures.ends in let p = c.if-most-eq0.false in omega arith))

pub returns : goal.returns
returns t c = (more-digits _ _ _ _ _ _ _ _ c.if-most-eq0.false c.if-n-lt10.false c.put_decimal-next.ensures.0 (rw (← c.digit-2.ensures) c.put-2.ensures), (let e = c.put-2.ensures.ends in let p = c.put_decimal-next.ensures.1 in let q = c.if-most-eq0.false in omega arith))
