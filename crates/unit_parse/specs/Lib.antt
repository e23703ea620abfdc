pub mod Modules
pub mod NodeCounts
pub mod ReaderMeaning
