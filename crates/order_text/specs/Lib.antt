-- A host's orders and takes in bytes, their text, and what storing it promises.
pub mod Orders
pub mod Texts
pub mod Closes
