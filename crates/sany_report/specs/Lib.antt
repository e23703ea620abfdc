pub mod Report
pub mod Spans
