pub mod Growing
pub mod Lexemes
pub mod Onward
pub mod Taking
pub mod UnitParts
pub mod Wholes
