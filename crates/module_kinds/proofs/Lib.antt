mod Trees
mod LevelSamples
mod DepthSamples
