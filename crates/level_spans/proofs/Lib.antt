mod LevelTrees
mod DeepTrees
mod Units
mod Standing
mod Samples
