pub mod Units
mod Nested
pub mod Leaving
pub mod Modules
pub mod Symbols
mod Growing
pub mod Declarations
pub mod Distinct
mod Yields
mod Places
mod Samples
