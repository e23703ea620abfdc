pub mod CallLemmas
pub mod DistinctLemmas
pub mod NamedLemmas
pub mod ReadingLemmas
