-- `judge::Reader::lead` meets its contract.
use Rattle.std.proofs.Common.{◌≡◌, ◌-◌, length}
use Rattle.judge.specs.Judge.{lead_of}
use Rattle.judge.proofs.Reader.lead.Given as goal

abbrev pub invariant-loop : goal.invariant-loop
invariant-loop l =
    let deck = l.self.deck.now in
    let pool = l.self.pool.now in
    lead_of deck pool (l.end - l.counter) l.last l.here ≡ lead_of deck pool (length deck) 0 l.fn.c
