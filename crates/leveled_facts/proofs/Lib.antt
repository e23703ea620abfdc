mod Others
mod Meeting
pub mod Agreeing
