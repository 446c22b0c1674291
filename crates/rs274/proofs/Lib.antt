-- The laws of positions, feeds and blocks, of the list that keeps their records, of reading a text line by line, and of the tape that is
-- made of it; and worked examples.
pub mod Positions
pub mod Rounding
pub mod Keeping
pub mod Reading
pub mod Records
pub mod Accepted
pub mod Making
pub mod Cases
