-- `refuse`: five texts, one after another.
use native.Mathlib.Omega.{arith}
use Rattle.definition.specs.Program.{refusal_line}
use Rattle.emit.specs.Front.{adds_then, adds-shows}
use Rattle.emit.proofs.frame.refuse.Goals as goal

pub returns : goal.returns
unfolding refusal_line
returns c = let e = c.put_text-a.ensures.ends in
    let f = c.put_decimal-b.ensures.1 in
    let g = c.put_text-c.ensures.ends in
    let h = c.put_decimal-d.ensures.1 in
    let i = c.put_text.ensures.ends in
    adds-shows _ (adds_then _ _ c.put_text-a.ensures (adds_then _ _ c.put_decimal-b.ensures.0 (adds_then _ _ c.put_text-c.ensures (adds_then _ _ c.put_decimal-d.ensures.0 c.put_text.ensures)))) (omega arith)
