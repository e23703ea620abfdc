pub mod Files
pub mod Passed
