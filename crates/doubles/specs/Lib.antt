-- What a double is read as.
pub mod Readings
