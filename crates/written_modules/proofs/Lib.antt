pub mod Placing
mod Scopes
mod Behind
pub mod Asked
