-- `plan::write_files` meets its contract.
use Rattle.plan.specs.Collected.{lent_with}
use Rattle.plan.proofs.Laws.{crowded, overfull, roomy}
use Rattle.plan.proofs.write_files.Goals as goal

pub returns-then-list-count : goal.returns-then-list-count
returns-then-list-count c = crowded (lent_with c.args.given.now.deck.now c.args.given.now.pool.now c.args.out.now c.args.list.now) _ c.count_all-count.ensures c.args.out.now c.args.list.now c.if-list-count.true

pub returns-then-out-end : goal.returns-then-out-end
returns-then-out-end c =
    overfull (lent_with c.args.given.now.deck.now c.args.given.now.pool.now c.args.out.now c.args.list.now) _ c.count_all-count.ensures c.if-list-count.false _ _ _ c.fill_list-end.ensures (rw c.fill_list-end.auto.out at c.if-out-end.true)

pub returns : goal.returns
returns c =
    roomy (lent_with c.args.given.now.deck.now c.args.given.now.pool.now c.args.out.now c.args.list.now) _ c.count_all-count.ensures c.if-list-count.false _ _ _ c.fill_list-end.ensures (rw c.fill_list-end.auto.out at c.if-out-end.false)
