-- Where units of a module are read, both for what its names mean and for what these stand for.
use Rattle.std.specs.Prelude.{◌≡◌, ℕ, List}
use Rattle.unit_grammar.specs.Units.{ModuleUnits, UnitTree}
use Rattle.module_model.specs.Exports.{ModuleView}
use Rattle.module_model.specs.Modules.{text_of}
use Rattle.module_model.specs.Resolution.{words_of}
use Rattle.tree_kinds.specs.Standing.{Outside}
use Rattle.module_kinds.specs.ModuleKinds.{KindState, first, read_all}

-- these files have these names for modules that name them
abbrev pub HaveViews : (List ℕ → Outside) → (List ℕ → ModuleView) → Type 0
HaveViews outsides files = (name : List ℕ) → (outsides name).view ≡ files name

-- where a unit is read, behind these
abbrev pub kinds_behind : (List ℕ → Outside) → List ℕ → ModuleUnits → List UnitTree → KindState
kinds_behind outsides source units before = read_all (text_of source units) outsides (words_of units) (first outsides source units) before
