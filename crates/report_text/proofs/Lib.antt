-- The laws of a report's text.
pub mod Written
