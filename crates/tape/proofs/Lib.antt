-- The laws of the tape.
pub mod Answers
pub mod Checks
pub mod Fits
pub mod Words
pub mod Stored
pub mod Trips
pub mod Faults
pub mod Written
mod Cases
