-- What is asked above of nodes and of what is found of them, passed on with what is said here.
pub use Rattle.found_levels.specs.Findings.{or_constant}
pub use Rattle.unit_flattener.specs.Modules.{AreOwnOf}
pub use Rattle.unit_flattener.specs.Numbers.{file_faces}
