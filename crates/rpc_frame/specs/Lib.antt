pub mod Fields
pub mod Frames
pub mod Framing
pub mod HeaderMachine
pub mod Streams
