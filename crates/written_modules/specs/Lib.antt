pub mod Modules
pub mod Faces
pub mod Asking
