mod Counting
mod HeldTrees
mod HeldUnits
mod Starts
mod Declared
mod Fronts
