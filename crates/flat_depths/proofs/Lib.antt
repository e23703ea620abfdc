pub mod Nodes
pub mod Agreeing
pub mod Joining
pub mod Replacing
pub mod Definitions
pub mod Growing
pub mod Units
