use Rattle.layout.proofs.Laws.{key-line-whole}
use Rattle.definition.specs.Pen.{mark}
use Rattle.flow.specs.Ready.{after-drawn}
use Rattle.pen.specs.Draws.{of-byte}
use Rattle.flow.specs.Hushed.{untold-in}
use Rattle.layout.proofs.put_key_line.Goals as goal

pub line-requires : goal.line-requires
line-requires c = let p = c.requires in (after-drawn p.0 (of-byte mark _ c.byte-w1.ensures), p.1, p.2, untold-in _ _ _)

pub returns : goal.returns
returns c = let p = c.requires in key-line-whole _ _ _ _ _ _ _ _ _ p.3 p.4 c.byte-w1.ensures c.line.ensures
