use Rattle.comments.proofs.comment_at.Goals as goal

pub returns : goal.returns
returns c = rw (← c.text_of-t.ensures) (c.comment_line.ensures)
