pub mod Choices
pub mod Siblings
