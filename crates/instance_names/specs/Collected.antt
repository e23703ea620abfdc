-- A walk over the nodes below some that are due, and what they give.
use Rattle.std.specs.Prelude.{◌≡◌, ◌+◌, ◌<◌, ◌++◌, ℕ, suc, List, [], ◌∷◌, Option, Some, None, length, map, reverse}
use Rattle.tla_tree.specs.Arena.{Node as ArenaNode, AreThere, node_at, tree_at}
use Rattle.tla_tree.specs.Syntax.{Tree, Trees, Node, Nil, Cons, trees}
use Rattle.tla_tree.specs.declared.form.Form.TheVariants as Form
use Rattle.tla_tree.specs.declared.unit.Unit.TheVariants as unit
use Rattle.unit_grammar.specs.UnitNodes.{nodes_in}

-- ---- what nodes give

module _ {A : Type 0} (given : Form.the_data → Trees → List A) where
  abbrev mutual
    -- what the nodes of a tree give, in the order of the text
    pub collected : Tree → List A
    collected (Node form s parts) = given form parts ++ all_collected parts

    -- the same of several trees
    pub all_collected : Trees → List A
    all_collected Nil = []
    all_collected (Cons x rest) = collected x ++ all_collected rest

  -- no tree of these nodes holds a node that gives something
  abbrev pub HoldsNone : List ArenaNode → Type 0
  HoldsNone nodes = (node : ℕ) → node < length nodes → collected (tree_at nodes node) ≡ []

-- the parts of a node
abbrev pub parts_of : List ArenaNode → ℕ → List Tree
parts_of nodes node = map (tree_at nodes) (node_at nodes node).children

-- ---- nodes that are due, the first one last

-- the node of a unit in whose tree names are used
abbrev pub root_in : unit.the_data → List ℕ
root_in (unit.Constants declarations) = []
root_in unit = nodes_in unit

-- they are there
abbrev pub AreDue : List ArenaNode → List ℕ → Type 0
AreDue nodes todo = AreThere nodes (reverse todo)

-- their trees
abbrev pub due_trees : List ArenaNode → List ℕ → List Tree
due_trees nodes todo = map (tree_at nodes) (reverse todo)

-- how many nodes trees have
abbrev mutual
  pub size : Tree → ℕ
  size (Node form span parts) = suc (sizes parts)

  pub sizes : Trees → ℕ
  sizes Nil = 0
  sizes (Cons tree rest) = size tree + sizes rest

-- how many nodes are left
abbrev pub due_size : List ArenaNode → List ℕ → ℕ
due_size nodes todo = sizes (trees (due_trees nodes todo))

-- a node is taken, and its children are due in its place
pub record IsTaken (nodes : List ArenaNode) (node : ℕ) (old new : List ℕ) : Type 0 where
  pub there : node < length nodes
  pub due : AreDue nodes new
  pub tree : tree_at nodes node ≡ Node (node_at nodes node).form (node_at nodes node).span (trees (parts_of nodes node))
  pub rest : List Tree
  pub before : due_trees nodes old ≡ tree_at nodes node ∷ rest
  pub after : due_trees nodes new ≡ parts_of nodes node ++ rest
  pub less : due_size nodes new < due_size nodes old

-- a step of a walk: a node is taken, or none is due
abbrev pub IsStep : List ArenaNode → Option ℕ → List ℕ → List ℕ → Type 0
IsStep nodes None old new = old ≡ []
IsStep nodes (Some node) old new = IsTaken nodes node old new
