use Rattle.layout.specs.Calm.{calm-drawn}
use Rattle.document.specs.Root.{root-calm}
use Rattle.document.proofs.Laws.{block-whole}
use Rattle.document.proofs.put_block.Goals as goal

pub put_members-requires : goal.put_members-requires
put_members-requires c = let p = c.requires in let b = calm-drawn p.0 c.put_props_line-w1.ensures in (root-calm b _ _ p.1.ahead p.1.within (c.root_column-i.ensures.1 p.0.ready.step), p.1, p.2)

pub returns : goal.returns
returns c = block-whole _ _ _ _ _ _ c.root_column-i.ensures.0 c.put_props_line-w1.ensures c.put_members.ensures
