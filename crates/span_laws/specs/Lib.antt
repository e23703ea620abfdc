pub mod NodeSpans
pub mod UnitWords
