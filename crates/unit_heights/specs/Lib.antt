pub mod TooHigh
pub mod FirstHigh
