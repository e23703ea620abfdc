pub mod Exact
pub mod Found
pub mod Importing
pub mod Kept
pub mod Searching
