pub mod Family
pub mod Fronts
pub mod Facts
pub mod Verdicts
