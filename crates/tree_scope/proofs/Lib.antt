pub mod NamesInText
pub mod NodeTasks
pub mod Noting
pub mod Replacing
pub mod Scoping
pub mod Segments
pub mod Shapes
pub mod TaskFindings
