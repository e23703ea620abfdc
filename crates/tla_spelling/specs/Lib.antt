pub mod Groups
pub mod Spellings
