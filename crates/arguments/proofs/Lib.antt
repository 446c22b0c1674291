-- The laws of what is read.
pub mod Read
pub mod Scans
