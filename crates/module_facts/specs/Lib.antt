pub mod Checks
pub mod Ordered
