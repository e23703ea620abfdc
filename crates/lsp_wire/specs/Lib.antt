pub mod Errors
pub mod Messages
pub mod Methods
pub mod Notes
pub mod Params
pub mod Replies
pub mod Written
