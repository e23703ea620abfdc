pub mod Ends
pub mod InTime
pub mod Serving
pub mod Walk
