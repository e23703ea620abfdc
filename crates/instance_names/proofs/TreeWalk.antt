-- A node is taken of those that are due.
use Rattle.std.proofs.Common.{◌≡◌, ℕ, ◌+◌, ◌<◌, List, [], ◌∷◌, ◌++◌, reverse, refl, ap, ◌∙◌, arith}
use Rattle.std.specs.Prelude.{map}
use Rattle.std.specs.List.{AllByRecursion}
use Rattle.std.proofs.lemmas.List.{map-append}
use Rattle.tla_tree.specs.Arena.{Node as ArenaNode, AreThere, node_at, tree_at}
use Rattle.tla_tree.specs.Syntax.{Tree, trees}
use Rattle.tla_tree.specs.declared.unit.Unit.TheVariants as unit
use Rattle.tla_tree.proofs.Walks.{turned}
use Rattle.unit_grammar.specs.UnitNodes.{nodes_in, unit_at}
use Rattle.module_model.specs.Instances.{unit_trees}
use Rattle.instance_names.specs.Collected.{AreDue, IsTaken, due_trees, parts_of, root_in, sizes}

sizes-append : (a b : List Tree) → sizes (trees (a ++ b)) ≡ sizes (trees a) + sizes (trees b)
sizes-append [] b = omega arith
sizes-append (x ∷ a) b = omega (arith, sizes-append a b)

pub taken : (nodes : List ArenaNode) (node : ℕ) (children old rest new : List ℕ) → AreDue nodes old → old ≡ rest ++ node ∷ [] → children ≡ (node_at nodes node).children → AllByRecursion (λ child. child < node) children → new ≡ rest ++ reverse children → IsTaken nodes node old new
taken nodes node children old rest new due is are before pushed =
    let turn = turned nodes node children old rest new due is are before pushed in
    let late = map (tree_at nodes) turn.rest in
    let first : due_trees nodes old ≡ tree_at nodes node ∷ late = ap (map (tree_at nodes)) turn.before in
    let next : due_trees nodes new ≡ parts_of nodes node ++ late = ap (map (tree_at nodes)) turn.after ∙ map-append (tree_at nodes) (node_at nodes node).children turn.rest in
    record {
      there = turn.there;
      due = turn.due;
      tree = turn.tree;
      rest = late;
      before = first;
      after = next;
      less = rw (first, next, turn.tree, sizes-append (parts_of nodes node) late) (omega arith);
    }

-- what is due before a walk over a unit
pub unit-due : (nodes : List ArenaNode) (u : unit.the_data) → unit_trees (unit_at nodes u) ≡ trees (due_trees nodes (root_in u))
unit-due nodes (unit.Variables names) = refl
unit-due nodes (unit.Constants declarations) = refl
unit-due nodes (unit.OperatorDefinition local node) = refl
unit-due nodes (unit.FunctionDefinition local node) = refl
unit-due nodes (unit.ModuleDefinition local node) = refl
unit-due nodes (unit.Instance local node) = refl
unit-due nodes (unit.Assumption word name node) = refl
unit-due nodes (unit.Theorem word name node) = refl
unit-due nodes (unit.Line dashes) = refl
unit-due nodes (unit.ModuleBegin dashes name extends) = refl
unit-due nodes (unit.ModuleEnd closing) = refl

pub unit-there : (nodes : List ArenaNode) (u : unit.the_data) → AreThere nodes (nodes_in u) → AreDue nodes (root_in u)
unit-there nodes (unit.Constants declarations) there = tt
unit-there nodes (unit.OperatorDefinition local node) there = there
unit-there nodes (unit.FunctionDefinition local node) there = there
unit-there nodes (unit.ModuleDefinition local node) there = there
unit-there nodes (unit.Instance local node) there = there
unit-there nodes (unit.Assumption word name node) there = there
unit-there nodes (unit.Theorem word name node) there = there
unit-there nodes _ there = tt
