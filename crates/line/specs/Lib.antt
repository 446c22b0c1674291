-- Document 01's line of blocks, and the ring of places that holds one.
pub mod Answers
pub mod Blocks
pub mod Chains
pub mod Demand
pub mod Holds
pub mod Ring
