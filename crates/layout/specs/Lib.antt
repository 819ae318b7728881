pub mod Calm
pub mod Emitting
pub mod Stretch
pub mod Value
