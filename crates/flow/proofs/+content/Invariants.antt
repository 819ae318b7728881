-- What falls at each call of the cycle: 16 times the deck that is left, and a rank; and the loops' invariants.
use lib.ListN.{length}
use Prim.Native.Nat.{◌+◌, ◌*◌, ◌-◌}
use mathlib.Core.Bool.{true}
use lib.Dec.{eqb}
use Rattle.pen.specs.Pen.{pen}
use Rattle.flow.proofs.Laws.{Going, flow_runs, lined_runs}
use Rattle.flow.specs.Hushed.{trees_in, Hushed}
use Rattle.flow.proofs.+content.Given as goal

abbrev pub decreases-content : goal.decreases-content
decreases-content l = 16 * (length l.given.now.deck.now - l.x.now.place) + 4

abbrev pub decreases-entry_key : goal.decreases-entry_key
decreases-entry_key l = 16 * (length l.given.now.deck.now - l.c.at) + 9

abbrev pub decreases-flow_entries : goal.decreases-flow_entries
decreases-flow_entries l = 16 * (length l.given.now.deck.now - l.c.at) + 12

abbrev pub decreases-flow_entry : goal.decreases-flow_entry
decreases-flow_entry l = 16 * (length l.given.now.deck.now - l.c.at) + 10

abbrev pub decreases-group : goal.decreases-group
decreases-group l = 16 * (length l.given.now.deck.now - l.c.at) + 14

abbrev pub decreases-entry_node : goal.decreases-entry_node
decreases-entry_node l = 16 * (length l.given.now.deck.now - l.c.at) + 8

abbrev pub decreases-line : goal.decreases-line
decreases-line l = 16 * (length l.given.now.deck.now - l.x.now.place) + 6

abbrev pub decreases-lined_entries : goal.decreases-lined_entries
decreases-lined_entries l = 16 * (length l.given.now.deck.now - l.c.at) + 12

abbrev pub decreases-lined_entry : goal.decreases-lined_entry
decreases-lined_entry l = 16 * (length l.given.now.deck.now - l.c.at) + 11

abbrev pub decreases-lined_group : goal.decreases-lined_group
decreases-lined_group l = 16 * (length l.given.now.deck.now - l.c.at) + 13

abbrev pub decreases-nested : goal.decreases-nested
decreases-nested l = 16 * (length l.given.now.deck.now - l.c.at) + 15

abbrev pub decreases-plain_group : goal.decreases-plain_group
decreases-plain_group l = 16 * (length l.given.now.deck.now - l.c.at) + 13

abbrev pub invariant-flow_entries-loop-k : goal.invariant-flow_entries-loop-k
invariant-flow_entries-loop-k l = Going l.given.settings l.given.deck.now l.given.pool.now l.i l.pairs (flow_runs l.given.settings l.given.deck.now l.given.pool.now l.i l.pairs (pen l.initial.v l.initial.out)) (pen l.initial.v l.initial.out) true l.n l.initial.here (pen l.v l.out) (eqb l.k 0) (l.n - l.k) l.here
    × Hushed l.given.deck.now l.given.pool.now l.still (trees_in l.pairs (l.n - l.k)) l.here

abbrev pub invariant-lined_entries-loop-k : goal.invariant-lined_entries-loop-k
invariant-lined_entries-loop-k l = Going l.given.settings l.given.deck.now l.given.pool.now l.i l.pairs (lined_runs l.given.settings l.given.deck.now l.given.pool.now l.i l.pairs (pen l.initial.v l.initial.out)) (pen l.initial.v l.initial.out) true l.n l.initial.here (pen l.v l.out) true (l.n - l.k) l.here
