mod ModulesRead
mod BuiltIn
