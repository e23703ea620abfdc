pub mod Readable
pub mod TextEnds
pub mod TextGrows
pub mod LexemesInText
mod Held
mod HeldTrees
mod FewNames
pub mod HeldUnits
pub mod OneFront
