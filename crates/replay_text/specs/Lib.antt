-- The text of calls that are run, and what storing it promises.
pub mod Chunks
pub mod Texts
pub mod Runs
pub mod Turns
