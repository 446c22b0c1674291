-- Document 01's tape: its fields, and what its readers, writers and check answer.
pub mod Tape
pub mod Answers
