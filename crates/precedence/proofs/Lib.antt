mod Deciding
mod Stack
pub mod Orders
