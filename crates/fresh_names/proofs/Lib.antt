pub mod New
mod Units
pub mod Kept
pub mod First
pub mod Brought
