-- The units of a module in code, with trees in place of the numbers of nodes.
use Rattle.std.specs.Prelude.{◌≡◌, ℕ, List, [], ◌∷◌, map}
use Rattle.std.specs.List.{AllByRecursion}
use Rattle.tla_tree.specs.Arena.{Node, AreThere, tree_at}
use Rattle.tla_tree.specs.Syntax.{trees}
use Rattle.tla_tree.specs.declared.unit.Unit.TheVariants as unit
use Rattle.tla_tree.specs.declared.unit.ModuleTree.{ModuleTree}
use Rattle.unit_grammar.specs.Heights.{module_height}
use Rattle.unit_grammar.specs.Units.{UnitTree, Variables, Constants, OperatorDefinition, FunctionDefinition, ModuleDefinition, Instance, Assumption, Theorem, Line, ModuleBegin, ModuleEnd, ModuleUnits}

-- the unit of the grammar, by the nodes of a tree
abbrev pub unit_at : List Node → unit.the_data → UnitTree
unit_at nodes (unit.Variables names) = Variables names
unit_at nodes (unit.Constants declarations) = Constants (trees (map (tree_at nodes) declarations))
unit_at nodes (unit.OperatorDefinition local node) = OperatorDefinition local (tree_at nodes node)
unit_at nodes (unit.FunctionDefinition local node) = FunctionDefinition local (tree_at nodes node)
unit_at nodes (unit.ModuleDefinition local node) = ModuleDefinition local (tree_at nodes node)
unit_at nodes (unit.Instance local node) = Instance local (tree_at nodes node)
unit_at nodes (unit.Assumption word name node) = Assumption word name (tree_at nodes node)
unit_at nodes (unit.Theorem word name node) = Theorem word name (tree_at nodes node)
unit_at nodes (unit.Line dashes) = Line dashes
unit_at nodes (unit.ModuleBegin dashes name extends) = ModuleBegin dashes name extends
unit_at nodes (unit.ModuleEnd closing) = ModuleEnd closing

-- the numbers that it holds
abbrev pub nodes_in : unit.the_data → List ℕ
nodes_in (unit.Constants declarations) = declarations
nodes_in (unit.OperatorDefinition local node) = node ∷ []
nodes_in (unit.FunctionDefinition local node) = node ∷ []
nodes_in (unit.ModuleDefinition local node) = node ∷ []
nodes_in (unit.Instance local node) = node ∷ []
nodes_in (unit.Assumption word name node) = node ∷ []
nodes_in (unit.Theorem word name node) = node ∷ []
nodes_in _ = []

-- units whose nodes are there
pub record AreUnits (nodes : List Node) (units : List unit.the_data) (found : List UnitTree) : Type 0 where
  pub there : AllByRecursion (λ unit. AreThere nodes (nodes_in unit)) units
  pub are : map (unit_at nodes) units ≡ found

-- the tree in code is the module, without its source
pub record IsModule (parsed : ModuleTree) (found : ModuleUnits) : Type 0 where
  pub name : parsed.name ≡ found.name
  pub extends : parsed.extends ≡ found.extends
  pub units : AreUnits parsed.tree parsed.units found.units
  pub height : parsed.height ≡ module_height found
  pub source : parsed.source ≡ []

-- the module that a tree in code is
abbrev pub module_of : ModuleTree → ModuleUnits
module_of tree = record { name = tree.name; extends = tree.extends; units = map (unit_at tree.tree) tree.units }

-- all nodes that its units hold are there
abbrev pub HasNodes : ModuleTree → Type 0
HasNodes tree = AllByRecursion (λ unit. AreThere tree.tree (nodes_in unit)) tree.units
