-- The laws of running a trace.
pub mod Heads
pub mod Rows
pub mod Runs
mod Cases
