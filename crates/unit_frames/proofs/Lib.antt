pub mod Growing
pub mod Taking
pub mod Popping
mod LastLexemes
