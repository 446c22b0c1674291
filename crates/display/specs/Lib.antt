-- Document 01's numbers on the display, and what calls answer by them.
pub mod Display
