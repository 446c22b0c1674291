pub mod Blocks
pub mod Climbs
pub mod Demand
pub mod Determined
pub mod Outcomes
pub mod Shows
pub mod View
