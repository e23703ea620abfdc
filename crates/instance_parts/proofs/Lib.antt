pub mod Gathereds
pub mod Gathers
pub mod Parting
pub mod Reaching
