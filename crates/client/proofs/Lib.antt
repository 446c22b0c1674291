-- What the client's proofs share.
pub mod Worked
pub mod Rapid
