mod Counts
mod Matching
