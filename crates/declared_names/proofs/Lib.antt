mod Collecting
pub mod Nodewise
