-- The laws of what is read of an order, of the numbers that keep a host, and demand 3 with orders in the list; and worked orders.
pub mod Fields
pub mod Hosts
pub mod Determined
pub mod Demand
mod Cases
