pub mod Tables
pub mod Needs
pub mod Modules
pub mod Plans
pub mod Outcomes
pub mod Agreement
pub mod Keeping
