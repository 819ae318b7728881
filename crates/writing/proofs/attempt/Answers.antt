-- `writing::attempt` meets its contract.
use Rattle.std.proofs.lemmas.Result.{err_from_is_err_and}
use Rattle.writing.proofs.Laws.{refused-so, admits}
use Rattle.writing.proofs.attempt.Goals as goal

pub returns-in_err-documents : goal.returns-in_err-documents
returns-in_err-documents c =
    let r = err_from_is_err_and c.from_residual.result c.from_residual.ensures.1 in
    rw (r.1, r.2) (refused-so _ _ _ _ _ _ c.in_err-documents.ensures)

pub emit-requires : goal.emit-requires
emit-requires c = let g = admits _ _ _ c.args.out.now _ c.in_ok-documents.ensures in (g.settled, g.small, g.accepted)
