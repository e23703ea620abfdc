pub mod Tables
pub mod Machine
