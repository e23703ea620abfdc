pub mod Constancy
pub mod ModuleKinds
