-- `judge::Reader::trees` meets its contract.
use Rattle.std.proofs.Common.{◌≡◌, ◌-◌}
use Rattle.definition.specs.Deck.{read_trees, read_deck}
use Rattle.judge.specs.Judge.{verdict_of, tally}
use Rattle.judge.proofs.Reader.trees.Given as goal

abbrev pub invariant-loop-documents : goal.invariant-loop-documents
invariant-loop-documents l =
    let deck = l.self.deck.now in
    let pool = l.self.pool.now in
    tally l.documents (read_trees deck pool (l.documents-end - l.documents) l.here) ≡ verdict_of (read_deck deck pool)
