mod Walking
mod Lying
mod LocalLeads
mod Numbering
pub mod Within
mod MadeForms
pub mod Stepping
mod Reading
mod Expressions
mod Excepts
mod Chains
mod Definitions
mod Looping
mod Roots
mod Replacements
mod RightSides
mod ModuleDefinitions
mod Instantiating
mod Parameters
mod Placing
mod Growth
mod TakenNames
