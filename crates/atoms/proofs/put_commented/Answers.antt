use Rattle.atoms.specs.Atoms.{commented}
use Rattle.definition.specs.Pen.{text}
use Rattle.pen.specs.Draws.{both, of-puts}
use Rattle.atoms.proofs.put_commented.Goals as goal

pub returns : goal.returns
unfolding commented
returns c = both _ _ (of-puts text _ c.put_header-w1.ensures) (both _ _ c.put_remark-w2.ensures (of-puts text _ c.put_block_body.ensures))
