pub mod Items
pub mod OneMessage
pub mod Texts
