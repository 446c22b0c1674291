pub mod Parts
pub mod Layouts
pub mod Bytes
pub mod Fields
pub mod Signed
pub mod Records
mod Cases
