-- `put_decimal`: what falls at each call of itself.
use Rattle.emit.proofs.frame.+put_decimal.Given as goal

abbrev pub decreases-put_decimal : goal.decreases-put_decimal
decreases-put_decimal l = l.most
