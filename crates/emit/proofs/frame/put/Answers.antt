-- `put` adds one byte.
use Rattle.emit.specs.Front.{adds-byte}
use Rattle.emit.proofs.frame.put.Goals as goal

pub returns : goal.returns
returns c = adds-byte _ _ _ c.requires
