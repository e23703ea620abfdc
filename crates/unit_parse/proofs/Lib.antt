mod Counting
mod Feeding
mod Stepping
mod Parsing
