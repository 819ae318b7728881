pub mod Loan
pub mod Filled
