pub mod Arities
pub mod Noted
pub mod Tasks
