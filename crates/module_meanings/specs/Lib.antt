pub mod Faces
pub mod Premises
pub mod Following
