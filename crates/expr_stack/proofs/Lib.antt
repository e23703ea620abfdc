pub mod Growing
pub mod Stacking
