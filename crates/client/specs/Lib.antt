-- The blocks and points of the worked results.
pub mod Work
pub mod Hosted
