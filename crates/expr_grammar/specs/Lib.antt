pub mod Kinds
pub mod Tables
pub mod Machine
pub mod BoundsAlone
pub mod Following
pub mod Counting
