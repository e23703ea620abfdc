pub mod LexemeSets
pub mod Lexing
pub mod ModulePart
pub mod Lengths
pub mod Longest
pub mod Spans
