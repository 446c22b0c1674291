-- Document 02, Q-7: what held a tape back, its figures, and the report over many tapes.
pub mod Counts
pub mod Held
pub mod Figures
pub mod Report
pub mod Rows
