-- The line that two lists say.
pub mod Lent
