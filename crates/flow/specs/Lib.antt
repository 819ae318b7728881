pub mod Ready
pub mod Hushed
