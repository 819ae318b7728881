-- Laws that the proofs of this crate share.
mod Kept
mod Laws
mod Texts
