mod NamesInText
pub mod Refused
