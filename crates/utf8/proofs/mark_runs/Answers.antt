-- `utf8::mark_runs` meets its contract.
use Rattle.std.proofs.Common.{◌≡◌, ◌+◌, ◌-◌, ◌*◌, ◌<◌, ◌≤◌, length, arith}
use Rattle.utf8.proofs.Runs.{start-near, start-in, runs-begin, runs-more, runs-from}
use Rattle.utf8.proofs.mark_runs.Goals as goal

pub loop-block-init : goal.loop-block-init
loop-block-init c = runs-begin _ _

pub run_end-requires-clause-at_in_bounds : goal.run_end-requires-clause-at_in_bounds
run_end-requires-clause-at_in_bounds c = let s = c.args.s.now in
    let k = c.loop-block.block - 1 in
    let l : 64 * k ≤ length s = omega arith in
    let i = start-in s (64 * k) l in
    let n = start-near s (64 * k) in
    omega arith

pub run_end-requires-clause-runs : goal.run_end-requires-clause-runs
run_end-requires-clause-runs c = let e : c.loop-block.block - 1 + 1 ≡ c.loop-block.block = omega arith in rw e c.loop-block.invariant

pub loop-block-preserved : goal.loop-block-preserved
loop-block-preserved c = let k = c.loop-block.block - 1 in
    let e : k + 1 ≡ c.loop-block.block = omega arith in
    let h : k < length c.loop-block.ends = omega arith in
    runs-more c.args.s.now c.loop-block.ends k _ h (rw e c.loop-block.invariant) (rw c.next_start-at.ensures at c.run_end.ensures)

pub returns : goal.returns
returns c = runs-from _ _ _ _ c.loop-block-test.false c.loop-block.invariant
