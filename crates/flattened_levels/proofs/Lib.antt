pub mod NodeKinds
pub mod AtNode
pub mod Helpers
pub mod Operands
pub mod Arguments
pub mod Alike
pub mod FormsAnswered
pub mod UpdatesAnswered
pub mod RightsAnswered
pub mod DefinitionsAnswered
pub mod TreesAnswered
mod Samples
