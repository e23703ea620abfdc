pub mod AtTrees
pub mod Asks
pub mod Answered
