pub mod Entries
mod Importing
pub mod Ordering
pub mod PartTables
