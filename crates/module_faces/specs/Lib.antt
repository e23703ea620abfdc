pub mod Codes
pub mod Faces
