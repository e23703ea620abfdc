mod Listing
pub mod Named
