pub mod RunLemmas
pub mod FolderLemmas
pub mod ServeLemmas
mod TellingLemmas
