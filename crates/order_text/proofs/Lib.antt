-- The laws of the text of a host's orders and takes.
pub mod Points
pub mod Whole
mod Cases
