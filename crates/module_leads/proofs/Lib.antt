mod Coming
mod Ended
mod Following
mod Keyed
mod Leaded
pub mod Led
mod Likeness
mod Listing
mod Numbered
mod Pairing
mod Placed
mod Putting
mod Said
mod Tabled
mod Telling
mod Within
