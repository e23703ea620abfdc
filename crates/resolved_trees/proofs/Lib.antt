pub mod Telling
pub mod Deep
pub mod Known
pub mod Kept
