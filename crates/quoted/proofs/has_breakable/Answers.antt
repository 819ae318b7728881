-- `quoted::has_breakable` meets its contract.
use Rattle.quoted.proofs.Folds.{breaks-here, breaks-on}
use Rattle.definition.specs.Fold.{breakable_in, has_breakable}
use lib.ListN.{drop_of_length-le}
use mathlib.Core.Path.{sym, ◌∙◌}
use Rattle.quoted.proofs.has_breakable.Goals as goal

pub returns-then-breakable_at : goal.returns-then-breakable_at
unfolding has_breakable
returns-then-breakable_at c = sym (breaks-here c.args.t.now c.loop-i.i c.loop-i.after c.loop-i-test.true (sym c.breakable_at.ensures ∙ c.if-breakable_at.true)) ∙ c.loop-i.invariant

pub loop-i-preserved : goal.loop-i-preserved
loop-i-preserved c = breaks-on c.args.t.now c.loop-i.i c.loop-i.after c.loop-i-test.true (sym c.breakable_at.ensures ∙ c.if-breakable_at.false) ∙ c.loop-i.invariant

pub returns : goal.returns
unfolding has_breakable breakable_in
returns c = rw (drop_of_length-le _ c.loop-i-test.false) at c.loop-i.invariant
