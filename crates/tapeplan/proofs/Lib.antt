-- The laws of planning a whole tape.
pub mod Answered
pub mod Demand
pub mod Plans
pub mod Sheets
pub mod Sized
pub mod Surveys
pub mod Wholes
mod Cases
