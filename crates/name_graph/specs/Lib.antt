pub mod Family
pub mod Rows
