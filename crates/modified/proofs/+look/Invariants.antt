-- `modified::look`: a child has less of the deck; the children that are left say what all say.
use Prim.Native.Nat.{◌-◌}
use lib.ListN.{length}
use Rattle.modified.proofs.Laws.{Rest}
use Rattle.modified.proofs.+look.Given as goal

abbrev pub decreases-look : goal.decreases-look
decreases-look l = length l.deck.now - l.c.at

abbrev pub invariant-loop : goal.invariant-loop
invariant-loop l = Rest l.deck l.start l.key_here l.counter l.here
