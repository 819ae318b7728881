-- `comments::put_repeated` meets its contract.
use mathlib.Core.Path.{sym, ap, ◌∙◌}
use Rattle.node.specs.declared.Run.{Run}
use Rattle.comments.specs.Runs.{none-repeated}
use Rattle.comments.proofs.Laws.{short-run, of-run}
use Rattle.comments.proofs.put_repeated.Goals as goal

pub returns-then-run-eq0 : goal.returns-then-run-eq0
returns-then-run-eq0 c = none-repeated _ _ c.args.e _ c.args.lead.now (sym (ap (λ (r : Run). r.count) c.run_of-run.ensures) ∙ c.if-run-eq0.true)

pub put_run-requires : goal.put_run-requires
put_run-requires c = let s = short-run _ _ _ c.requires.1 c.run_of-run.ensures in (c.requires.0, s.0, s.1)

pub returns : goal.returns
returns c = of-run _ _ _ _ _ c.run_of-run.ensures c.put_run.ensures
