pub mod ExpandedKind
pub mod Substitution
pub mod FlatModule
pub mod Expansion
