pub mod Leading
pub mod Listing
pub mod Nodes
pub mod Showing
