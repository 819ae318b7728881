-- Theorems: the scripts of well-formed trees are sound.
pub mod Sound
pub mod Files
