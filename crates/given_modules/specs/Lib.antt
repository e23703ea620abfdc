pub mod Fresh
pub mod Good
pub mod Nested
pub mod Others
pub mod Yielding
pub mod Passed
