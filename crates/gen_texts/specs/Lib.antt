pub mod Texts
pub mod Generated
