-- `changes::fill_list`: a turn, and the end.
use Rattle.std.proofs.Common.{◌≡◌, ℕ, suc, ◌+◌, ◌-◌, ◌<◌, ◌≤◌, arith, ◌∙◌, sym}
use Rattle.changes.specs.Filled.{turn, filled_none, filled_more}
use Rattle.changes.proofs.fill_list.Goals as goal

one-more : (n i : ℕ) → i < n → n - i ≡ suc (n - (i + 1))
one-more n i h = omega arith

no-more : (n i : ℕ) → n ≤ i → n - i ≡ 0
no-more n i h = omega arith

pub loop-i-preserved : goal.loop-i-preserved
unfolding turn
loop-i-preserved c =
    let e = c.next_file-made.ensures in
    rw (c.store_change.ensures, e.1, e.0) (sym (filled_more _ _ _ _ _) ∙ rw (one-more _ _ c.loop-i-test.true) at c.loop-i.invariant)

pub returns : goal.returns
returns c = sym (filled_none _ _ _ _) ∙ rw (no-more _ _ c.loop-i-test.false) at c.loop-i.invariant
