-- `plan::attempt` meets its contract.
use mathlib.Core.Path.{sym}
use Rattle.definition.specs.Settings.{plain_settings}
use Rattle.definition.specs.Calls.{no_change}
use Rattle.plan.specs.Collected.{lent_with}
use Rattle.std.proofs.lemmas.Result.{err_from_is_err_and}
use Rattle.plan.proofs.Laws.{refused-so, admits, zeroed, handed-back}
use Rattle.plan.proofs.attempt.Goals as goal

pub returns-in_err-admit : goal.returns-in_err-admit
unfolding plain_settings
returns-in_err-admit c =
    let e = rw c.from-settings.ensures at c.in_err-admit.ensures in
    let r = err_from_is_err_and c.from_residual.result c.from_residual.ensures.1 in
    rw (r.1, r.2) (refused-so (lent_with c.args.deck.now c.args.pool.now c.args.out.now c.args.list.now) _ e)

pub write_files-written-requires : goal.write_files-written-requires
unfolding plain_settings
write_files-written-requires c =
    let e = rw c.from-settings.ensures at c.in_ok-admit.ensures in
    (admits (lent_with c.args.deck.now c.args.pool.now c.args.out.now c.args.list.now) _ e).small.deck

pub returns-then-is_err : goal.returns-then-is_err
unfolding plain_settings no_change
returns-then-is_err c =
    let e = rw c.from-settings.ensures at c.in_ok-admit.ensures in
    let t = c.if-is_err.ensures in
    rw (c.fill.ensures.after (λ y h. h), c.fill-then-is_err.ensures.after (λ y h. h), c.write_files-written.auto.out, c.write_files-written.auto.list)
    (zeroed (lent_with c.args.deck.now c.args.pool.now c.args.out.now c.args.list.now) _ e _ _ _ (sym t.value) c.write_files-written.ensures)

pub returns-else-is_err : goal.returns-else-is_err
unfolding plain_settings
returns-else-is_err c =
    let e = rw c.from-settings.ensures at c.in_ok-admit.ensures in
    let t = c.if-is_err.ensures in
    handed-back (lent_with c.args.deck.now c.args.pool.now c.args.out.now c.args.list.now) _ e _ _ _ (sym t.value) c.write_files-written.ensures
