-- `pieces::double_piece` meets its contract.
use Rattle.pieces.proofs.Laws.{double_ascii, double_latin, double_wide, double_plain}
use mathlib.Core.Path.{sym, ◌∙◌}
use Rattle.pieces.proofs.double_piece.Goals as goal

pub returns-then-a-lt128 : goal.returns-then-a-lt128
returns-then-a-lt128 c = double_ascii _ _ _ _ c.if-a-lt128.true c.ascii_piece.ensures

pub returns-then-is_c1 : goal.returns-then-is_c1
returns-then-is_c1 c = double_latin _ _ _ c.if-a-lt128.false (sym c.is_c1.ensures ∙ c.if-is_c1.true)

pub returns-then-is_non : goal.returns-then-is_non
returns-then-is_non c = double_wide _ _ _ c.if-a-lt128.false (sym c.is_c1.ensures ∙ c.if-is_c1.false) (sym c.is_non.ensures ∙ c.if-is_non.true)

pub returns : goal.returns
returns c = double_plain _ _ _ c.if-a-lt128.false (sym c.is_c1.ensures ∙ c.if-is_c1.false) (sym c.is_non.ensures ∙ c.if-is_non.false)
