pub mod Root
pub mod Pieces
