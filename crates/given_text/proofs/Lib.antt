-- The laws of the line of a block given out.
pub mod GivenLines
