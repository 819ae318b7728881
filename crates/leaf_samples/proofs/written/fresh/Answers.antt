use mathlib.Core.Path.{ap}
use Rattle.pen.specs.Pen.{Fields}
use Rattle.leaf_samples.proofs.written.fresh.Goals as goal

pub returns : goal.returns
returns c = ap (λ (f : Fields). f.column) c.at_column.ensures
