-- The laws of lines in two lists.
pub mod Filled
