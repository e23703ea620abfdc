pub mod Spans
pub mod Growing
