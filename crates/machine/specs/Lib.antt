-- Document 01's machine and block: ranges, refusals, numbers, what the numbers mean, and what the calls answer.
pub mod Answers
pub mod Caps
pub mod Checks
pub mod Labels
pub mod Line
pub mod Lists
pub mod Meaning
pub mod Numbers
pub mod Ranges
pub mod Torque
