pub mod Ahead
pub mod Changes
pub mod Modules
pub mod Numbers
pub mod Scopes
pub mod Walked
pub mod Walking
