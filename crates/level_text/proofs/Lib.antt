pub mod Depths
mod KindSamples
mod UseSamples
