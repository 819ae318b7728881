-- `blocks::line_turn` meets its contract.
use native.Mathlib.Omega.{arith}
use Rattle.blocks.proofs.Laws.{line-broken, line-begun, line_on}
use Rattle.blocks.proofs.line_turn.Goals as goal

pub returns-then-t-i-eq10 : goal.returns-then-t-i-eq10
returns-then-t-i-eq10 c = (line-broken _ c.args.t.now c.args.i c.requires.0 _ _ _ c.if-t-i-eq10.true c.byte.ensures, omega arith)

pub returns-then-g : goal.returns-then-g
returns-then-g c = (line-begun _ c.args.t.now c.args.i c.line_end-j.result c.line_end-j.ensures.0 c.line_end-j.ensures.1 _ _ _ _ c.if-g.true c.spaces-w.ensures c.text.ensures, c.line_end-j.ensures.1)

pub returns : goal.returns
returns c = (line_on _ c.args.t.now c.args.i c.line_end-j.result c.line_end-j.ensures.0 c.line_end-j.ensures.1 _ _ _ c.if-g.false c.text-2.ensures, c.line_end-j.ensures.1)
