pub mod Turning
pub mod Renaming
pub mod Going
pub mod Operating
pub mod Following
pub mod Leaving
pub mod Closing
pub mod Answering
