pub mod Front
pub mod Cut
