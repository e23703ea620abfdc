pub mod Interfaces
