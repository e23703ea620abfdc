pub mod Unfolding
pub mod Growth
pub mod Equality
pub mod Weighing
pub mod TableEntries
pub mod Firsts
pub mod Lookups
pub mod Operands
