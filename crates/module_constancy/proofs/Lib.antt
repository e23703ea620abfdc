mod Constancies
mod TreeParts
mod Passing
mod Modules
mod UnitLexemes
