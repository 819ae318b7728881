use Rattle.layout.specs.Calm.{in-line}
use native.Mathlib.Omega.{arith}
use Rattle.document.proofs.Laws.{line-whole}
use Rattle.flow.specs.Hushed.{untold-in}
use Rattle.document.proofs.put_inlined.Goals as goal

pub line-requires : goal.line-requires
line-requires c = let p = c.requires in let b = p.0 in let n = c.step_of-i.ensures.1 b.ready.step in (in-line b _ _ (omega arith) b.ready.here (omega (arith, n)), p.1, p.2, untold-in _ _ _)

pub returns : goal.returns
returns c = let b = c.requires.0 in line-whole _ _ _ _ _ _ _ _ b.flow b.key c.step_of-i.ensures.0 c.line.ensures
