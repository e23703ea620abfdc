pub mod MadeNodes
pub mod Standings
