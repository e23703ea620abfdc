pub mod Exporting
