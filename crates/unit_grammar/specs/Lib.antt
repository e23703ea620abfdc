pub mod Units
pub mod UnitNodes
pub mod Derivation
pub mod FirstBad
pub mod Heights
