pub mod FaultPlaces
mod InstanceSamples
mod NameSamples
pub mod Replacing
mod Items
mod Forgetting
mod SameModules
mod Asking
pub mod Settling
