pub mod Shaped
pub mod Deep
