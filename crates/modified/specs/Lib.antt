pub mod Local
pub mod Files
