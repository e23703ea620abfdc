pub mod Earlier
pub mod Ranked
