pub mod Brake
pub mod Plan
pub mod Highest
pub mod Kept
pub mod InPlace
pub mod Within
pub mod Stairs
pub mod Stays
mod Cases
