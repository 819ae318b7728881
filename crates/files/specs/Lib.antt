pub mod Scan
pub mod Files
pub mod Step
pub mod Next
pub mod Run
pub mod Stored
