pub mod Asking
pub mod Covering
pub mod Using
