pub mod Bringing
mod Firsts
mod Keeping
mod Over
mod Owning
mod There
