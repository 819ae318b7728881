-- `quoted::body_turn` meets its contract.
use native.Mathlib.Omega.{arith}
use Rattle.quoted.proofs.Laws.{run-written}
use Rattle.quoted.proofs.body_turn.Goals as goal

pub returns : goal.returns
returns c = record { same = run-written _ _ c.args.t.now c.args.i c.run_end-j.result _ _ c.run_end-j.ensures c.text.ensures; on = let h = c.run_end-j.ensures.on in let n = c.if-j-i.false in omega arith }
