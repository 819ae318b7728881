use Rattle.comments.proofs.directive_at.Goals as goal

pub returns : goal.returns
returns c = rw (← c.text_of-t.ensures) (c.percent_line.ensures)
