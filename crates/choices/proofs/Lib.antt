-- Laws that the proofs of this crate share.
mod Laws
