-- How high units and modules are.
use Rattle.std.specs.Prelude.{ℕ, suc, ◌+◌, ◌-◌, max, List, [], ◌∷◌}
use Rattle.tla_tree.specs.Syntax.{height}
use Rattle.unit_grammar.specs.Units.{UnitTree, OperatorDefinition, FunctionDefinition, ModuleDefinition, Instance, Assumption, Theorem, ModuleBegin, ModuleEnd, ModuleUnits}

-- a unit is as high as its expressions; one without any has 1, and so has a nested module without units
abbrev pub unit_height : UnitTree → ℕ
unit_height (OperatorDefinition local x) = max 1 (height x)
unit_height (FunctionDefinition local x) = max 1 (height x)
unit_height (ModuleDefinition local x) = max 1 (height x)
unit_height (Instance local x) = max 1 (height x)
unit_height (Assumption word name x) = max 1 (height x)
unit_height (Theorem word name x) = max 1 (height x)
unit_height _ = 1

-- the highest of units inside so many nested modules, each of which adds 1
abbrev pub highest_unit : ℕ → List UnitTree → ℕ
highest_unit inside [] = 0
highest_unit inside (ModuleBegin dashes name extends ∷ units) = max (inside + 1) (highest_unit (suc inside) units)
highest_unit inside (ModuleEnd closing ∷ units) = highest_unit (inside - 1) units
highest_unit inside (unit ∷ units) = max (inside + unit_height unit) (highest_unit inside units)

-- a module is as high as its highest unit
abbrev pub module_height : ModuleUnits → ℕ
module_height found = highest_unit 0 found.units
