use Rattle.comments.specs.Runs.{percent}
use Rattle.definition.specs.Pen.{directive, space, newline}
use Rattle.pen.specs.Draws.{both, of-puts, of-byte}
use mathlib.Core.Path.{ap, ◌∙◌}
use Rattle.pen.specs.Pen.{puts}
use Rattle.comments.proofs.percent_line.Goals as goal

pub returns : goal.returns
unfolding percent newline puts
returns c = both _ _ (of-puts directive _ (c.text-w2.ensures ∙ ap (puts c.args.t.now) c.byte-w1.ensures)) (of-byte space _ c.byte.ensures)
