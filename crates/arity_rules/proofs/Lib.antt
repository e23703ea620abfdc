pub mod FaultPlaces
mod Noting
mod Samples
mod Tasks
