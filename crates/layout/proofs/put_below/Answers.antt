use Rattle.flow.specs.Ready.{after-drawn}
use Rattle.layout.proofs.Laws.{below-whole}
use Rattle.flow.specs.Hushed.{untold-in}
use Rattle.layout.proofs.put_below.Goals as goal

pub line-requires : goal.line-requires
line-requires c = let p = c.requires in (after-drawn p.0 c.put_below-w1.ensures, p.1, p.2, untold-in _ _ _)

pub returns : goal.returns
returns c = let p = c.requires in below-whole _ _ _ _ _ _ _ _ _ p.3 p.4 c.put_below-w1.ensures c.line.ensures
