-- What planning a whole tape answers and leaves.
pub mod Planned
pub mod Sheet
pub mod Survey
