-- `node::is_comment` meets its contract.
use Rattle.std.proofs.Common.{arith}
use Rattle.node.proofs.Laws.{comment-other, comment-within}
use Rattle.node.proofs.is_comment.Goals as goal

pub returns-in-4-to-6 : goal.returns-in-4-to-6
returns-in-4-to-6 c = comment-within _ _ _ c.kind.ensures.0 (omega arith) (omega arith)

pub returns-in_default : goal.returns-in_default
returns-in_default c = comment-other _ _ _ c.kind.ensures.0 (λ e. omega arith) (λ e. omega arith) (λ e. omega arith)

pub returns-in_default-2 : goal.returns-in_default-2
returns-in_default-2 c = comment-other _ _ _ c.kind.ensures.0 (λ e. omega arith) (λ e. omega arith) (λ e. omega arith)
