-- The laws of the text of calls.
pub mod Heads
pub mod Lines
pub mod Runs
pub mod Turns
pub mod Whole
mod Cases
