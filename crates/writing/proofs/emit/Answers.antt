-- `writing::emit` meets its contract.
use mathlib.Core.Path.{◌≡◌, sym, ◌∙◌}
use mathlib.Core.Bool.{false, true≢false}
use Rattle.writing.proofs.Laws.{not-one, begin-at, emitted}
use Rattle.writing.proofs.emit.Goals as goal
use Rattle.writing.proofs.emit.Goals.{else-not-all-via-then-not-all+else-documents-ne1, else-not-all-via-else-not-all}

pub returns-then-documents-ne1 : goal.returns-then-documents-ne1
returns-then-documents-ne1 c = not-one _ _ _ _ c.requires.0 c.requires.1 _ _ c.requires.2 c.if-not-all.true c.if-documents-ne1.true

pub put_documents-v-requires : goal.put_documents-v-requires
put_documents-v-requires c = begin-at _ _ _ _ c.requires.0 c.requires.1 c.args.all _ c.requires.2 _ c.fresh_writer-w.ensures

pub returns : goal.returns
returns c =
    let one : c.args.all ≡ false → c.args.documents ≡ 1 =
    λ e. elim c.else-not-all.branch [ else-not-all-via-then-not-all+else-documents-ne1 w ↦ w.if-documents-ne1.false | else-not-all-via-else-not-all w ↦ absurd (true≢false (sym w.if-not-all.false ∙ e)) ] in
    emitted _ _ _ _ c.requires.0 c.requires.1 _ _ c.requires.2 _ _ _ _ _ one c.fresh_writer-w.ensures c.put_documents-v.ensures c.settle.ensures
