pub mod Lists
pub mod Ways
pub mod Reaching
pub mod Walking
pub mod Joining
pub mod Closing
pub mod Moves
