pub mod Lists
pub mod Members
pub mod FrontLaws
pub mod Needing
pub mod Once
pub mod States
pub mod Parts
