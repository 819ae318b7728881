-- `utf8::run_end` meets its contract.
use mathlib.Core.Path.{◌≡◌, sym, ◌∙◌}
use lib.ListN.{drop}
use Rattle.utf8.specs.Chars.{char_len}
use Rattle.utf8.proofs.Runs.{from_is, run_none, run_more, run-middle, char-in, start_is, run_by}
use Rattle.utf8.proofs.run_end.Goals as goal

pub returns-in_default : goal.returns-in_default
returns-in_default c = c.loop-i.invariant.1 _ (run_none c.args.s.now c.loop-i.i c.loop-i.invariant.0 (rw (from_is c.args.s.now c.loop-i.i) at c.in_default.ensures))

pub loop-i-preserved : goal.loop-i-preserved
loop-i-preserved c = let s = c.args.s.now in
    let i = c.loop-i.i in
    let h : c.in-Some.n ≡ char_len (drop i s) = rw (from_is s i) at (sym c.in-Some.ensures.2) in (
      char-in s i c.loop-i.invariant.0 _ h,
      λ e r. c.loop-i.invariant.1 e (run_more s i c.loop-i.invariant.0 _ e h r),
      λ l b. start_is s _ i _ h c.loop-i-test.true l b,
    )

pub returns-then-is_boundary : goal.returns-then-is_boundary
returns-then-is_boundary c = let e = c.loop-i.invariant.2 c.loop-i-test.false (sym c.is_boundary.ensures ∙ c.if-is_boundary.true) in
    c.loop-i.invariant.1 _ (run_by c.args.s.now c.args.ends.now c.args.block c.loop-i.i c.requires.runs c.loop-i-test.false c.loop-i.invariant.0 c.requires.at_in_bounds.3 e)

pub returns-else-is_boundary : goal.returns-else-is_boundary
returns-else-is_boundary c = c.loop-i.invariant.1 _ (run-middle c.args.s.now c.loop-i.i c.loop-i.invariant.0 (sym c.is_boundary.ensures ∙ c.if-is_boundary.false))
