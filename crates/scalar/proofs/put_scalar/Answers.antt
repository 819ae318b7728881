-- `scalar::put_scalar` meets its contract.
use Rattle.definition.specs.Scalar.{marker_of}
use Rattle.laws.specs.Leaf.{scalar_bytes, block_at}
use Rattle.scalar.proofs.put_scalar.Goals as goal

pub returns-in-Plain : goal.returns-in-Plain
unfolding scalar_bytes block_at marker_of
returns-in-Plain c = rw c.in-Plain.is c.put_plain.ensures

pub returns-in-Single : goal.returns-in-Single
unfolding scalar_bytes block_at marker_of
returns-in-Single c = rw c.in-Single.is c.put_styled.ensures

pub returns-in-Double : goal.returns-in-Double
unfolding scalar_bytes block_at marker_of
returns-in-Double c = rw c.in-Double.is c.put_styled-in-Double.ensures

pub returns-in-Literal : goal.returns-in-Literal
unfolding scalar_bytes block_at marker_of
returns-in-Literal c = rw c.in-Literal.is c.put_block.ensures

pub returns-in-Folded : goal.returns-in-Folded
unfolding scalar_bytes block_at marker_of
returns-in-Folded c = rw c.in-Folded.is c.put_block-in-Folded.ensures
