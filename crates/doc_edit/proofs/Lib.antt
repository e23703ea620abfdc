mod Offsets
mod Changing
