pub mod Locations
pub mod Standing
