-- Theorems: what the calls come to.
pub mod Read
pub mod Sound
pub mod Outcome
