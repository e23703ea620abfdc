pub mod Leading
pub mod Indices
pub mod SearchState
