pub mod Faces
pub mod Definitions
pub mod Rounds
