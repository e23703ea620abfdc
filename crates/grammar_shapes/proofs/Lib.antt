mod Nameless
mod Parts
mod Trees
mod Units
pub mod Arranged
