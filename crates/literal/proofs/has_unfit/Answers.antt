-- `literal::has_unfit` meets its contract.
use Rattle.std.proofs.Common.{◌∙◌, sym, rules}
use Rattle.laws.specs.Somewhere.{any_as_some}
use Rattle.literal.specs.Unfit.{unfit_at}
use Rattle.literal.proofs.has_unfit.Goals as goal

pub returns : goal.returns
returns c = c.any_place.ensures unfit_at (record { gives = λ a b d r k l m e. search rules }) ∙ sym (any_as_some unfit_at c.args.t.now)
