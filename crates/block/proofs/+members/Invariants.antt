-- What falls at each call of the cycle: 16 times the deck that is left, and a rank; and the loops' invariants.
use lib.ListN.{length}
use Prim.Native.Nat.{◌+◌, ◌*◌, ◌-◌}
use mathlib.Core.Bool.{true}
use lib.Dec.{eqb}
use Rattle.pen.specs.Pen.{pen}
use Rattle.block.proofs.Laws.{Rowing}
use Rattle.block.proofs.+members.Given as goal

abbrev pub decreases-put_dash : goal.decreases-put_dash
decreases-put_dash l = 16 * (length l.given.now.deck.now - l.c.at) + 10

abbrev pub decreases-put_dashed : goal.decreases-put_dashed
decreases-put_dashed l = 16 * (length l.given.now.deck.now - l.x.now.place) + 9

abbrev pub decreases-put_key : goal.decreases-put_key
decreases-put_key l = 16 * (length l.given.now.deck.now - l.x.now.place) + 10

abbrev pub decreases-put_members : goal.decreases-put_members
decreases-put_members l = 16 * (length l.given.now.deck.now - l.x.now.next.at) + 13

abbrev pub decreases-put_question : goal.decreases-put_question
decreases-put_question l = 16 * (length l.given.now.deck.now - l.x.now.place) + 9

abbrev pub decreases-put_row : goal.decreases-put_row
decreases-put_row l = 16 * (length l.given.now.deck.now - l.c.at) + 11

abbrev pub decreases-put_rows : goal.decreases-put_rows
decreases-put_rows l = 16 * (length l.given.now.deck.now - l.c.at) + 12

abbrev pub decreases-put_under : goal.decreases-put_under
decreases-put_under l = 16 * (length l.given.now.deck.now - l.x.now.next.at) + 14

abbrev pub decreases-put_value : goal.decreases-put_value
decreases-put_value l = 16 * (length l.given.now.deck.now - l.c.at) + 10

abbrev pub invariant-put_rows-loop-k : goal.invariant-put_rows-loop-k
invariant-put_rows-loop-k l = Rowing l.given.settings l.given.deck.now l.given.pool.now l.i l.pairs (pen l.initial.v l.initial.out) l.initial.lead true l.n l.initial.here (pen l.v l.out) l.lead (eqb l.k 0) (l.n - l.k) l.here
