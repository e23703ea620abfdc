pub mod Standing
pub mod Expanding
pub mod TreeLevels
pub mod TreeDepths
pub mod Making
