pub mod Good
pub mod Spot
