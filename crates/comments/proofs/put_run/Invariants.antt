use Prim.Native.Nat.{◌+◌, ◌-◌, ◌*◌, ◌<◌, ◌≤◌, ◌^◌}
use lib.ListN.{length}
use mathlib.Core.Path.{◌≡◌}
use Rattle.pen.specs.Pen.{pen}
use Rattle.comments.specs.Runs.{entries, stride}
use Rattle.comments.proofs.Laws.{Level}
use Rattle.comments.proofs.put_run.Given as goal

abbrev pub invariant-loop : goal.invariant-loop
invariant-loop l = Level (entries l.given.deck.now l.given.pool.now l.e l.indent (l.end - l.counter) l.here) (pen l.u l.out) (entries l.given.deck.now l.given.pool.now l.e l.indent l.end l.initial.here) (pen l.initial.u l.initial.out)
    × (length l.out ≡ length l.initial.out) × (l.here.at + 6 * (l.end - l.counter) < 2 ^ 63) × (l.step ≡ stride l.e) × (l.step ≤ 6)
