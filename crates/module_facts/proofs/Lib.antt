pub mod Checked
pub mod Standing
pub mod Inserting
