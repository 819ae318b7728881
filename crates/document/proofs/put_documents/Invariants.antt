use Prim.Native.Nat.{◌-◌}
use lib.Dec.{eqb}
use Rattle.pen.specs.Pen.{pen}
use Rattle.document.proofs.Laws.{Pending}
use Rattle.document.proofs.put_documents.Given as goal

abbrev pub invariant-loop-k : goal.invariant-loop-k
invariant-loop-k l = Pending l.given.settings l.given.deck.now l.given.pool.now l.passed (pen l.initial.v l.initial.out) l.n l.initial.here (pen l.v l.out) (eqb l.k 0) (l.n - l.k) l.here
