pub mod LeveledModules
pub mod NestedModules
mod Answered
