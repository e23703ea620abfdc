pub mod Zips
pub mod Relations
pub mod Likeness
pub mod Putting
pub mod Unfolding
