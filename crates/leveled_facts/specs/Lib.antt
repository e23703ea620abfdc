pub mod Modules
pub mod Families
