-- A tape's list of rows of numbers.
pub mod Rows
