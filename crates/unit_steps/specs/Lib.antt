pub mod PointMeaning
pub mod Waiting
