pub mod Frames
pub mod Sent
pub mod Spending
pub mod Whole
