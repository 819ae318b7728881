-- `laws::any_place` meets its contract.
use Rattle.std.proofs.Common.{◌<◌, refl, sym, ◌∙◌, get_or}
use Rattle.std.proofs.Math.Facts.{Fits-lt-pow}
use Rattle.laws.specs.Somewhere.{found_at, passed_at, none_at}
use Rattle.laws.proofs.any_place.Goals as goal

pub loop-i-init : goal.loop-i-init
loop-i-init g c = λ f k. refl

pub returns-then-test : goal.returns-then-test
returns-then-test g c = λ f k. let l : get_or c.args.t.now c.loop-i.i 0 < 256 = Fits-lt-pow (c.type_inv.t c.loop-i.i) in
    let e = k.gives _ _ _ _ l c.byte_or.type_inv c.byte_or-in-loop-i.type_inv c.test.ensures in
    sym (found_at c.args.d f c.args.t.now c.loop-i.i _ _ c.loop-i-test.true c.byte_or.ensures c.byte_or-in-loop-i.ensures (sym e ∙ c.if-test.true)) ∙ c.loop-i.invariant f k

pub loop-i-preserved : goal.loop-i-preserved
loop-i-preserved g c = λ f k. let l : get_or c.args.t.now c.loop-i.i 0 < 256 = Fits-lt-pow (c.type_inv.t c.loop-i.i) in
    let e = k.gives _ _ _ _ l c.byte_or.type_inv c.byte_or-in-loop-i.type_inv c.test.ensures in
    passed_at c.args.d f c.args.t.now c.loop-i.i _ _ c.loop-i-test.true c.byte_or.ensures c.byte_or-in-loop-i.ensures (sym e ∙ c.if-test.false) ∙ c.loop-i.invariant f k

pub returns : goal.returns
returns g c = λ f k. sym (none_at c.args.d f c.args.t.now c.loop-i.i c.loop-i-test.false) ∙ c.loop-i.invariant f k
