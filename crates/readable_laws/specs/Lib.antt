pub mod Uses
pub mod Accepted
pub mod Steady
pub mod StandIns
pub mod ReadUnits
