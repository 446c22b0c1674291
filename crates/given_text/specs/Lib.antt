-- The line of a block given out.
pub mod Given
