-- `modified::count_all`: what is counted and what is left make the whole.
use Rattle.modified.proofs.Counts.{Sum}
use Rattle.modified.proofs.count_all.Given as goal

abbrev pub invariant-loop : goal.invariant-loop
invariant-loop l = Sum l.deck l.count l.counter l.here
