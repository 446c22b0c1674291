-- What is left to do for a program that is started with words, the lines that tell what is wrong, and the files that words name.
pub mod Files
pub mod Lines
pub mod Starts
