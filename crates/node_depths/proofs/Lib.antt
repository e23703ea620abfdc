pub mod Greatest
pub mod Capping
pub mod Stepping
