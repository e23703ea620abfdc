pub mod Lists
pub mod Options
pub mod Tests
pub mod Texts
