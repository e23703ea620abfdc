pub mod Outlines
pub mod Passing
pub mod Shown
