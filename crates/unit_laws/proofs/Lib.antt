mod Samples
mod Stopping
mod Flat
mod Moving
mod PartCompleteness
pub mod UnitCompleteness
mod Views
mod MoveSoundness
pub mod Soundness
mod Completing
pub mod FirstBad
mod Lasting
pub mod Ending
mod NestedHeights
mod Holding
