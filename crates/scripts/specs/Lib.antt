pub mod Keep
pub mod Sound
pub mod Files
