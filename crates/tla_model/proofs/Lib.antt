mod Feeding
mod Meanings
mod Noting
pub mod Stretching
mod Placing
pub mod Holding
