-- The lines, words and numbers of RS-274 text.
pub mod Leading
pub mod Lines
pub mod Pieces
pub mod Number
pub mod Digits
pub mod Words
pub mod Steps
pub mod Meaning
