-- `changes::fill_list`: what is stored so far, and the turns that are left, come to what all turns come to.
use Rattle.std.proofs.Common.{◌≡◌, ◌-◌}
use Rattle.changes.specs.Filled.{started, filled}
use Rattle.changes.proofs.fill_list.Given as goal

abbrev pub invariant-loop-i : goal.invariant-loop-i
invariant-loop-i l =
    filled l.given.deck.now l.given.pool.now l.i (l.n - l.i) (started l.w l.out l.list)
    ≡ filled l.given.deck.now l.given.pool.now 0 l.n (started l.initial.w l.initial.out l.initial.list)
