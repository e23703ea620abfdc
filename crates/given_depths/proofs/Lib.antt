pub mod Plain
mod Entries
pub mod Coming
pub mod Seen
pub mod Own
mod Apart
