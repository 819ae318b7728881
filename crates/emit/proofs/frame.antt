-- Laws that the proofs of this module share.
mod Laws
