use mathlib.Core.Path.{sym, ◌∙◌}
use Rattle.definition.specs.Walk.{above_dash}
use Rattle.definition.specs.Deck.{layout_of}
use Rattle.node.specs.Total.{kept_of}
use Rattle.comments.specs.Runs.{repeated}
use Rattle.pen.specs.Draws.{draws-yes, draws-no}
use Rattle.comments.proofs.put_above_dash.Goals as goal

pub returns-then-is_marked : goal.returns-then-is_marked
unfolding above_dash repeated kept_of layout_of
returns-then-is_marked c = draws-yes _ _ _ (sym c.is_marked.ensures ∙ c.if-is_marked.true) c.put_repeated.ensures

pub returns : goal.returns
unfolding above_dash repeated kept_of layout_of
returns c = draws-no _ _ _ (sym c.is_marked.ensures ∙ c.if-is_marked.false) c.put_repeated-2.ensures
