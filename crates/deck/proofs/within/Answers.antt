-- `deck::within` meets its contract.
use Rattle.deck.proofs.Laws.{within_at}
use Rattle.deck.proofs.within.Goals as goal

pub returns : goal.returns
returns c = within_at c.args.deck.now c.args.at _ c.min.ensures
