-- Views that modules have over others.
use Rattle.std.specs.Prelude.{ℕ, List}
use Rattle.unit_grammar.specs.Units.{ModuleUnits}
use Rattle.front_laws.specs.Fronts.{IsFront, Tree as TreeFront}
use Rattle.module_model.specs.Exports.{ModuleView, nothing}
use Rattle.module_model.specs.Resolution.{outside_in}

-- no module, or one over files that are such
pub data ComesOfModules : ModuleView → Type 0 where
  no_module : ComesOfModules nothing
  a_module : {files : List ℕ → ModuleView} {name bytes : List ℕ} {units : ModuleUnits} → IsFront name bytes (TreeFront units) → ((title : List ℕ) → ComesOfModules (files title)) → ComesOfModules (outside_in files bytes units)
