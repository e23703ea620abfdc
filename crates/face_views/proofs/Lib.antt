pub mod Comparing
pub mod Exactly
pub mod Exporting
pub mod Looking
pub mod Views
