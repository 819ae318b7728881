-- `scalar::unsafe_in_flow` meets its contract.
use Rattle.std.proofs.Common.{refl, sym, ◌∙◌}
use Rattle.laws.specs.Somewhere.{found_at, passed_at, none_at}
use Rattle.scalar.specs.Tests.{unsafe_at}
use Rattle.scalar.proofs.Laws.{unsafe-by}
use Rattle.scalar.proofs.unsafe_in_flow.Goals as goal

pub returns-then-is_unsafe : goal.returns-then-is_unsafe
returns-then-is_unsafe c =
    sym (found_at 32 unsafe_at c.args.t.now c.loop-i.i _ _ c.loop-i-test.true refl refl (sym c.is_unsafe.ensures ∙ c.if-is_unsafe.true)) ∙ c.loop-i.invariant ∙ sym (unsafe-by c.args.t.now)

pub loop-i-preserved : goal.loop-i-preserved
loop-i-preserved c = passed_at 32 unsafe_at c.args.t.now c.loop-i.i _ _ c.loop-i-test.true refl refl (sym c.is_unsafe.ensures ∙ c.if-is_unsafe.false) ∙ c.loop-i.invariant

pub returns : goal.returns
returns c = sym (none_at 32 unsafe_at c.args.t.now c.loop-i.i c.loop-i-test.false) ∙ c.loop-i.invariant ∙ sym (unsafe-by c.args.t.now)
