use Rattle.pen.proofs.Kept.{says, same-counts, other-column}
use Rattle.pen.proofs.Writer.at_column.Goals as goal

pub returns : goal.returns
returns c = says _ (same-counts _) (other-column _ _)
