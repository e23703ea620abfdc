pub mod Exact
pub mod Found
pub mod Same
