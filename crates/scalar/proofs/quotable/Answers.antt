use borrow.Author.Rules.{rules}
use mathlib.Core.Bool.{not}
use mathlib.Core.Path.{sym, ap, ◌∙◌}
use Rattle.scalar.specs.Tests.{refused_at}
use Rattle.scalar.proofs.Laws.{quotable-by}
use Rattle.scalar.proofs.quotable.Goals as goal

pub returns : goal.returns
returns c = ap not (c.any_place.ensures refused_at (record { gives = λ a b d r k l m e. search rules })) ∙ sym (quotable-by c.args.t.now)
