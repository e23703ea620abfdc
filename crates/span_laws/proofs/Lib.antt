mod Covers
mod CoversTrees
mod CoversUnits
mod Gaps
mod Placing
mod PlacedNodes
mod LyingWords
