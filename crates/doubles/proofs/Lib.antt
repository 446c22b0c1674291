-- The laws of doubles.
pub mod Closest
pub mod Decoding
pub mod Meaning
pub mod Positions
mod Cases
