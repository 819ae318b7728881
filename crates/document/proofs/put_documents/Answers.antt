use native.Mathlib.Omega.{arith}
use mathlib.Core.Path.{refl}
use Rattle.document.proofs.Laws.{first-left, next-left, not-first, left-none, left-more, file-start, file-turn, file-end}
use Rattle.document.proofs.put_documents.Goals as goal

pub loop-k-init : goal.loop-k-init
loop-k-init c = rw (first-left _) (file-start _ _ _ _ _ _ _ c.requires)

pub put_document-e-requires : goal.put_document-e-requires
put_document-e-requires c = c.loop-k.invariant.calm

pub loop-k-preserved : goal.loop-k-preserved
loop-k-preserved c = rw (next-left _ _, not-first _) (file-turn _ _ _ _ _ _ _ _ _ _ _ _ _ _ c.loop-k.invariant (let h = c.loop-k-test.true in omega (arith, h)) c.put_document-e.ensures (left-more c.args.given.now.settings _ c.args.given.now.pool.now _ _ c.if-given-here.false))

pub returns-then-given-here : goal.returns-then-given-here
returns-then-given-here c = file-end _ _ _ _ _ _ _ _ _ _ _ (file-turn _ _ _ _ _ _ _ _ _ _ _ _ _ _ c.loop-k.invariant (let h = c.loop-k-test.true in omega (arith, h)) c.put_document-e.ensures (left-none c.args.given.now.settings _ c.args.given.now.pool.now _ _ c.if-given-here.true)) refl

pub shape_of-out : goal.shape_of-out
shape_of-out c = c.loop-k.invariant.size

pub returns : goal.returns
returns c = file-end _ _ _ _ _ _ _ _ _ _ _ c.loop-k.invariant (let z = c.loop-k-test.false in omega arith)
