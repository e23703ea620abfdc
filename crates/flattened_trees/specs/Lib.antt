pub mod Leads
pub mod Within
pub mod Questions
pub mod NodeForms
pub mod Flattened
pub mod Readable
pub mod Agreeing
pub mod Answers
