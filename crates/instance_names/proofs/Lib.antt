mod Collecting
mod Giving
mod TreeWalk
