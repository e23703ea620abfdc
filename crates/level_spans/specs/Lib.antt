pub mod LevelSpans
