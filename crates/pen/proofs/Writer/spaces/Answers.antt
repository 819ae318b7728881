use Rattle.definition.specs.Base.{spaces}
use Rattle.pen.proofs.Writer.spaces.Goals as goal

pub returns : goal.returns
unfolding spaces
returns c = c.again.ensures
