pub mod Instances
pub mod Units
