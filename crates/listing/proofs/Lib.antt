-- The laws of a tape's listing.
pub mod Plans
pub mod Lines
pub mod Answers
pub mod Lengths
pub mod Parts
pub mod Whole
