-- What a trace says, and what running it promises.
pub mod Trace
pub mod Rows
pub mod Runs
pub mod Replays
