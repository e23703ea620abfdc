pub mod Nodes
mod Kept
pub mod Walks
