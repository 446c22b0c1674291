-- The text of a report.
pub mod Text
