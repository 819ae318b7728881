-- `utf8::run_well_formed` meets its contract.
use mathlib.Core.Path.{sym, ◌∙◌}
use native.Mathlib.Omega.{arith}
use borrow.Author.Tests.{le-ltb}
use Rattle.utf8.proofs.Chars.{none_left}
use Rattle.utf8.proofs.Runs.{run_past, run_in}
use Rattle.utf8.proofs.run_well_formed.Goals as goal

pub returns-then-len-eq0 : goal.returns-then-len-eq0
returns-then-len-eq0 c = rw (c.if-len-eq0.true, none_left)

pub returns-then-past-end : goal.returns-then-past-end
returns-then-past-end c = c.is_boundary.ensures ∙ sym (run_in c.args.s.now c.args.from c.args.len _ c.requires.0 c.run_end-end.ensures c.if-past-end.true)

pub returns-else-past-end : goal.returns-else-past-end
returns-else-past-end c = rw (run_past c.args.s.now c.args.from c.args.len _ c.requires.0 c.run_end-end.ensures (omega (arith, c.if-end-past.false)), le-ltb _ _ c.if-past-end.false)
