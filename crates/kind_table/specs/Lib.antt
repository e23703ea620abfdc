pub mod Input
pub mod Flattened
pub mod Weights
pub mod Table
pub mod Operands
