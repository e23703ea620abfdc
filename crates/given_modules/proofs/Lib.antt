pub mod Ahead
mod Elsewhere
pub mod Fresh
pub mod AtUnits
mod Shaped
mod Nothing
mod Placed
mod Given
mod Inside
pub mod Usable
mod GoodModules
mod Exported
mod NestedExtending
mod Coming
mod Disjoint
mod NestedGiven
mod NestedSymbols
mod NestedUnits
mod Quiet
mod Standing
pub mod Others
mod OwnNames
mod Declaring
mod Steady
mod Again
mod Yielding
mod NextFiles
pub mod Passed
