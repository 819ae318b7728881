-- `layout::put_leaf` meets its contract.
use Rattle.flow.specs.Ready.{after-drawn}
use Rattle.flow.specs.Hushed.{untold-in}
use Rattle.layout.specs.Value.{value-bare, value-below, value-beside}
use Rattle.layout.proofs.put_leaf.Goals as goal

pub returns-then-bare : goal.returns-then-bare
returns-then-bare c = value-bare _ _ _ _ _ _ c.bare.ensures _ c.requires.1 c.if-bare.true c.put_bare.ensures.0 c.put_bare.ensures.1

pub returns-then-is_marked : goal.returns-then-is_marked
returns-then-is_marked c = value-below _ _ _ _ _ _ c.bare.ensures c.if-bare.false _ c.is_marked.ensures _ c.if-is_marked.true c.put_below.ensures

pub line-requires : goal.line-requires
line-requires c = (after-drawn c.requires.0 c.put_pad-w1.ensures, c.requires.1, c.requires.2, untold-in _ _ _)

pub returns : goal.returns
returns c = value-beside _ _ _ _ _ _ c.bare.ensures c.if-bare.false _ c.is_marked.ensures _ _ _ _ c.if-is_marked.false c.requires.3 c.requires.4 c.put_pad-w1.ensures c.line.ensures
