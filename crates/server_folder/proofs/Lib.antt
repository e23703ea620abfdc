pub mod Closed
pub mod RootReads
