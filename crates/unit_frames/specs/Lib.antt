pub mod FrameMeaning
