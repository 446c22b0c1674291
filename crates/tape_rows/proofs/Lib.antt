-- The laws of a tape's rows.
pub mod Plans
pub mod TapeRows
mod Cases
