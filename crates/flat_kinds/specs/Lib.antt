pub mod Readings
pub mod Modules
pub mod Symbols
pub mod Declarations
pub mod Yields
