-- What the functions for C promise.
pub mod Moves
pub mod Planners
pub mod Tapes
pub mod Plans
pub mod Texts
pub mod Orders
pub mod Reports
pub mod Version
