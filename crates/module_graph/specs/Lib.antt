pub mod Imports
pub mod Named
pub mod UnitNames
pub mod Within
