pub mod Text
pub mod Store
