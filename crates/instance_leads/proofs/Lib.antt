pub mod FaceLeads
pub mod Faces
pub mod Finding
pub mod Knowing
pub mod Naming
pub mod Noting
