pub mod Leading
pub mod Written
