pub mod Entries
pub mod Environments
pub mod Imports
pub mod Kept
