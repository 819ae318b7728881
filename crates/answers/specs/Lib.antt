pub mod Answer
pub mod Limits
pub mod Admitted
