pub mod Entries
pub mod Line
pub mod Told
