pub mod Collecting
pub mod Listed
pub mod Nodes
