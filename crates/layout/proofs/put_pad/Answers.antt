use Rattle.layout.proofs.Laws.{pad-one, pad-more}
use Rattle.layout.proofs.put_pad.Goals as goal

pub returns-then-pad-lt2 : goal.returns-then-pad-lt2
returns-then-pad-lt2 c = pad-one _ c.if-pad-lt2.true c.byte.ensures

pub returns : goal.returns
returns c = pad-more _ c.if-pad-lt2.false c.spaces.ensures
