pub mod Places
pub mod LineStarts
