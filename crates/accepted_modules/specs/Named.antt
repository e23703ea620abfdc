-- Something is so of all names of a module.
use Rattle.std.specs.List.{AllByRecursion}
use Rattle.tla_model.specs.Tables.{Named, same_named}
use Rattle.tla_model.specs.Entities.{Meaning}
use Rattle.module_model.specs.Exports.{ModuleView, exported}
use Rattle.flat_kinds.specs.Declarations.{EachOnce}

-- it is so of all names that a module exports, each of which is there once, and of its parameters
pub record AllNamed (P : Named → Meaning → Type 0) (view : ModuleView) : Type 0 where
  pub entries : AllByRecursion (λ entry. P entry.0 entry.1) (exported view)
  pub parameters : AllByRecursion (λ entry. P entry.0 entry.1) view.parameters
  pub once : EachOnce same_named (exported view)
