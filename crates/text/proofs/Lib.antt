pub mod Decimal
pub mod Store
pub mod Lines
pub mod Cases
