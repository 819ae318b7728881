pub mod Lines
pub mod Props
