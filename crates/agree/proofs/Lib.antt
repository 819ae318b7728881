-- Theorems: the two readers agree.
pub mod Runs
pub mod Agree
pub mod Accepted
