pub mod Leveled
pub mod Parts
