-- The memory of a planner as a ring of places, and what its calls promise.
pub mod Calls
pub mod View
