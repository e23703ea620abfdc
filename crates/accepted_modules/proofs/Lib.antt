pub mod Views
pub mod Tables
pub mod Contexts
pub mod Holding
mod Telling
mod Behind
pub mod Naming
mod Coming
mod Brought
mod Beside
mod Instanced
mod Starts
pub mod Faces
mod Knowing
pub mod Reading
mod Modules
pub mod Symbols
pub mod Placed
pub mod Leading
pub mod Declaring
mod Sharing
