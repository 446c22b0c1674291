-- What the contracts and laws of arith speak of.
pub mod Nearest
pub mod Quotient
pub mod Root
pub mod Signed
