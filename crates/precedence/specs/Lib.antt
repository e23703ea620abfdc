pub mod Choices
pub mod Ranges
pub mod Waiting
