mod Reaching
mod Stepping
mod Concluding
