-- The laws of answers by a number on the display.
pub mod Answers
