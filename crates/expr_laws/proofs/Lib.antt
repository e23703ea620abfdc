pub mod KindTests
mod Samples
mod Tabled
mod Completeness
mod Asking
pub mod Starting
mod Bounding
mod Naming
mod Passing
pub mod Membering
pub mod Defining
mod TablesDerive
pub mod Complete
pub mod Following
mod SampleTrees
mod Views
pub mod Viewing
mod Marking
mod Converting
mod PartShapes
mod Parting
mod Ending
mod Joining
pub mod Soundness
pub mod Heading
pub mod CompletingKinds
mod CompletingTables
pub mod CompletingStates
mod CompletingParts
mod CompletingFrames
mod CompletingMarks
pub mod Completing
mod Counting
pub mod CountingMade
mod CountingHeld
mod CountingSamples
pub mod CompletingFirst
pub mod Stopping
