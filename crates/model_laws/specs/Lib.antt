pub mod Settled
pub mod Needed
