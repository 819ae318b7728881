use mathlib.Core.Path.{ap}
use mathlib.Core.List.{[]}
use Rattle.pen.specs.Pen.{Fields, page, with_key}
use Rattle.pen.proofs.Kept.{says, same-counts, other_key, bit-small}
use Rattle.pen.proofs.Writer.with_key.Goals as goal

pub returns : goal.returns
unfolding with_key
returns c = rw c.from.ensures (ap (λ (w : Fields). page w []) (says _ (same-counts _) (other_key _ _ (bit-small c.args.inside))))
