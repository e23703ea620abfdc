pub mod Binding
pub mod Trees
