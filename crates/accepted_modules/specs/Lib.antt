pub mod States
pub mod Named
pub mod Behind
pub mod Beside
pub mod Faces
pub mod Coming
pub mod Offered
pub mod Leading
