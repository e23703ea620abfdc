pub mod Questions
pub mod Asking
pub mod Answers
