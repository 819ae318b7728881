use mathlib.Core.Path.{sym, ◌∙◌}
use Rattle.definition.specs.Deck.{head_of}
use Rattle.node.specs.Total.{comment_at}
use Rattle.comments.specs.Runs.{entry}
use Rattle.pen.specs.Draws.{draws-yes, draws-no, stays}
use Rattle.comments.proofs.above_at.Goals as goal

pub returns-then-is_below : goal.returns-then-is_below
unfolding entry comment_at head_of
returns-then-is_below c = draws-yes _ _ _ (sym c.is_below.ensures ∙ c.if-is_below.true) stays

pub returns : goal.returns
unfolding entry comment_at head_of
returns c = draws-no _ _ _ (sym c.is_below.ensures ∙ c.if-is_below.false) c.comment_at.ensures
