pub mod Words
pub mod Looking
pub mod Places
