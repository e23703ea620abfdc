mod Merging
mod Faces
mod Finding
mod Constant
