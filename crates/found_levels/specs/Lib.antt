pub mod Findings
pub mod Stretches
