mod LongestLemmas
mod TableLemmas
mod SetLemmas
mod KindLemmas
mod WordLemmas
pub mod StringLemmas
mod SignLemmas
pub mod CommentLemmas
mod HeaderLemmas
pub mod LastLemmas
pub mod StepLemmas
mod CutLemmas
mod PartLemmas
mod TakesLongestLemmas
pub mod ReadsLemmas
