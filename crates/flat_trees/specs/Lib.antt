pub mod Stands
pub mod Names
pub mod Layouts
pub mod Instances
pub mod Growing
