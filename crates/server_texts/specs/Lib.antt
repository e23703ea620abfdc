pub mod Answers
pub mod Kept
pub mod Notes
pub mod Outlines
pub mod Server
