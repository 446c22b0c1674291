-- The listing of a whole tape.
pub mod Listing
pub mod Parts
