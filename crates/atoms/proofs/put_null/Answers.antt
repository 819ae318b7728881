use Rattle.atoms.specs.Atoms.{null_in}
use Rattle.pen.specs.Pen.{puts}
use Rattle.atoms.proofs.put_null.Goals as goal

pub returns-then-is_tilde_null : goal.returns-then-is_tilde_null
unfolding null_in puts
returns-then-is_tilde_null c = rw (← c.is_tilde_null.ensures, c.if-is_tilde_null.true) c.byte.ensures

pub returns : goal.returns
unfolding null_in puts
returns c = rw (← c.is_tilde_null.ensures, c.if-is_tilde_null.false) c.text.ensures
