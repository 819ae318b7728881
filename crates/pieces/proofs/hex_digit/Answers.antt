use Rattle.pieces.proofs.Laws.{digits}
use Rattle.pieces.proofs.hex_digit.Goals as goal

pub returns : goal.returns
returns c = rw c.from.ensures (digits c.args.d c.requires)
