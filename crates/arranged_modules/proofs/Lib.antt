mod Trees
mod Files
mod Seeing
mod Replacing
mod NextFiles
mod Itself
mod Along
mod Others
mod Known
pub mod Passed
