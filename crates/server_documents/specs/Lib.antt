pub mod Documents
pub mod Held
pub mod Notices
