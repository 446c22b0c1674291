-- The table of worked examples, proved.
pub mod Table
