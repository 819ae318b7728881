-- `files::next_file` meets its contract.
use mathlib.Core.Path.{sym}
use Rattle.files.specs.Step.{is-ready}
use Rattle.files.proofs.Laws.{unready-still, none-still, file-stepped}
use Rattle.files.proofs.next_file.Goals as goal

pub returns-then-not-is_ready : goal.returns-then-not-is_ready
returns-then-not-is_ready c = unready-still _ _ _ _ c.if-not-is_ready.ensures c.stay.ensures

pub find-requires : goal.find-requires
find-requires c = (is-ready _ _ _ _ (sym c.if-not-is_ready.ensures)).here

pub returns-in-None : goal.returns-in-None
returns-in-None c = none-still _ _ _ _ c.if-not-is_ready.ensures c.in-None.ensures c.stay-in-None.ensures

pub write_file-requires : goal.write_file-requires
write_file-requires c = let r = is-ready _ _ _ _ (sym c.if-not-is_ready.ensures) in let f = c.in-Some.ensures in (r.out-small, r.room, f.here, r.deck-small, r.pool-small)

pub returns-in-Some : goal.returns-in-Some
returns-in-Some c = file-stepped _ _ _ _ c.if-not-is_ready.ensures c.in-Some.ensures c.write_file.ensures
