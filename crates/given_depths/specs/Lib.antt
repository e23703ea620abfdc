pub mod Given
pub mod Own
pub mod Passed
