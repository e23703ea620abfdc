-- The names that stand in units.
use Rattle.std.specs.Prelude.{◌≡◌, ℕ, Option, None, Some, List, [], ◌∷◌}
use Rattle.tla_symbols.specs.declared.lexeme.Lexeme.{Lexeme}
use Rattle.tla_tree.specs.declared.unit.Unit.TheVariants as unit

-- the name of the nested module that a unit begins
abbrev pub begun_name : unit.the_data → List Lexeme
begun_name (unit.ModuleBegin dashes name extends) = name ∷ []
begun_name _ = []

-- all instances of a unit stand below this node, or it has none
abbrev pub InstancesAt : unit.the_data → Option ℕ → Type 0
InstancesAt (unit.OperatorDefinition local node) found = found ≡ Some node
InstancesAt (unit.FunctionDefinition local node) found = found ≡ Some node
InstancesAt (unit.ModuleDefinition local node) found = found ≡ Some node
InstancesAt (unit.Instance local node) found = found ≡ Some node
InstancesAt (unit.Assumption word name node) found = found ≡ Some node
InstancesAt (unit.Theorem word name node) found = found ≡ Some node
InstancesAt _ found = found ≡ None
