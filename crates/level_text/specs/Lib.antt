pub mod Depth
pub mod LevelFaults
pub mod FormRules
