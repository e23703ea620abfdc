pub mod EachOnce
pub mod ExportedInstances
pub mod NamedInstances
pub mod NestedEnds
pub mod ScopeSoundness
pub mod Staying
