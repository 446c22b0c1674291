-- The laws of reports.
pub mod Accepted
pub mod Answers
pub mod Causes
pub mod Copies
pub mod Counts
pub mod Rows
pub mod Sums
mod Cases
