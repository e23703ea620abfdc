pub mod Nodes
pub mod Settings
pub mod Instances
pub mod Told
