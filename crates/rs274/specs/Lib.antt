-- What the lines of an RS-274 text do, the blocks of a whole text, and the records and the tape that are written of it.
pub mod Modal
pub mod Bounds
pub mod Text
pub mod Answers
pub mod Meaning
pub mod Kept
