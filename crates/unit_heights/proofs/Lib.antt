mod Places
pub mod HighUnits
mod HighNodes
