-- `judge::Reader::node` meets its contract.
use Rattle.std.proofs.Common.{◌≡◌, ◌-◌}
use Rattle.definition.specs.Deck.{read_node}
use Rattle.judge.specs.Judge.{step_of, children}
use Rattle.judge.proofs.Reader.+node.Given as goal

abbrev pub decreases-node : goal.decreases-node
decreases-node l = l.levels

abbrev pub invariant-loop : goal.invariant-loop
invariant-loop l =
    let deck = l.self.deck.now in
    let pool = l.self.pool.now in
    children deck pool (l.levels - 1) (l.end - l.counter) l.here ≡ step_of (read_node deck pool l.levels l.fn.c)
