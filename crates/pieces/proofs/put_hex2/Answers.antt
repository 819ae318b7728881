-- `pieces::put_hex2` meets its contract.
use Rattle.definition.specs.Quote.{hex2}
use Rattle.pieces.proofs.put_hex2.Goals as goal

pub returns : goal.returns
unfolding hex2
returns c = rw (c.hex_digit.ensures, c.hex_digit-2.ensures) at c.put_pair.ensures
