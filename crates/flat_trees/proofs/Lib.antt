pub mod Reaching
pub mod BuiltNodes
pub mod Agreeing
pub mod Definitions
pub mod Instances
pub mod Meanings
pub mod Growing
pub mod BoundNames
