-- `rassemok::look` meets its contract.
use native.Mathlib.Omega.{arith}
use Rattle.std.proofs.lemmas.Result.{err_from_is_err_and}
use Rattle.definition.specs.Settings.{plain_settings}
use Rattle.rassemok.proofs.Laws.{refused-so, not-one, one}
use Rattle.rassemok.proofs.look.Goals as goal

pub returns-in_err-documents : goal.returns-in_err-documents
unfolding plain_settings
returns-in_err-documents c =
    let r = err_from_is_err_and c.from_residual.result c.from_residual.ensures.1 in
    rw (r.1, r.2) (refused-so _ _ _ (rw c.from-settings.ensures at c.in_err-documents.ensures))

pub returns-then-documents-ne1 : goal.returns-then-documents-ne1
unfolding plain_settings
returns-then-documents-ne1 c = not-one _ _ _ (rw c.from-settings.ensures at c.in_ok-documents.ensures) c.if-documents-ne1.true

pub local_modified-requires : goal.local_modified-requires
local_modified-requires c = omega arith

pub returns : goal.returns
unfolding plain_settings
returns c = one _ _ _ (rw c.from-settings.ensures at c.in_ok-documents.ensures) _ c.if-documents-ne1.false (c.local_modified.ensures.told _)
