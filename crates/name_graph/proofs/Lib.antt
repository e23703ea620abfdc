mod Naming
mod Ordering
