pub mod Goals
pub mod TurnMeaning
pub mod Ending
pub mod MachineMeaning
