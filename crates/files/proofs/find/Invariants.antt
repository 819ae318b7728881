-- `files::find`: the heads that are left come to what all of them do.
use Rattle.files.proofs.Laws.{Finding}
use Rattle.files.proofs.find.Given as goal

abbrev pub invariant-loop : goal.invariant-loop
invariant-loop l = Finding l.deck l.initial.here l.end l.counter l.here
