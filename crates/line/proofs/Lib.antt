-- A ring that holds a line answers each call as the line does, and holds the line after it.
pub mod Answers
pub mod Chains
pub mod Spans
pub mod Places
pub mod Climbs
pub mod Adds
pub mod Takes
pub mod Shows
pub mod Calls
pub mod Demand
