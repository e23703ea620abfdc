pub mod EnclosingReadings
pub mod Modules
pub mod Readings
pub mod Steps
