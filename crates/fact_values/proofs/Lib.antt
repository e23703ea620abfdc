pub mod NameLemmas
pub mod ReachLemmas
pub mod ValueLemmas
pub mod Agreeing
