pub mod Counting
pub mod Tasks
