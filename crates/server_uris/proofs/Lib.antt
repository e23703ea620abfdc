mod Cutting
mod Folders
pub mod ModuleTexts
pub mod Slashes
