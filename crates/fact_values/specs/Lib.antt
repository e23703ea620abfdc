pub mod Names
pub mod Reach
pub mod States
pub mod Values
