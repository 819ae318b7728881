-- `plan::collect` meets its contract: what the call does is the definition's.
use mathlib.Core.Path.{◌∙◌}
use Rattle.plan.specs.Collected.{lent_with, collected-is}
use Rattle.plan.proofs.collect.Goals as goal

pub returns : goal.returns
returns c = rw c.answer_of.ensures (c.attempt.ensures ∙ collected-is (lent_with c.args.deck.now c.args.pool.now c.args.out.now c.args.list.now))
