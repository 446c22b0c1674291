-- What a host's orders mean, and what carrying them out promises.
pub mod Fields
pub mod State
pub mod Calls
pub mod Events
pub mod Demand
