-- How the declaring names of a text are collected: what is due, the first one last.
use Rattle.std.specs.Prelude.{◌≡◌, ◌<◌, ◌+◌, ℕ, Bool, true, false, List, [], ◌∷◌, ◌++◌, map, length, reverse}
use Rattle.std.specs.List.{AllByRecursion}
use Rattle.tla_tree.specs.Arena.{Node, node_at, tree_at}
use Rattle.tla_tree.specs.Syntax as Syntax
use Rattle.tla_tree.specs.Syntax.{Tree, Trees}
use Rattle.tla_model.specs.declared.names.Binder.{Binder}
use Rattle.tla_model.specs.Entities.{Binding, bound_as, declared_in, placed}
use Rattle.declared_names.specs.declared.declared.Due.TheVariants as due
use Rattle.declared_names.specs.Nodes.{defined_at}

-- names of a tree that are still to be collected
abbrev pub Due : Type 0
Due = due.the_data

-- what is due as it is kept, the first one last
abbrev pub stack : List Due → List Due
stack todo = reverse todo

-- the names of these nodes, each bound so, are due
abbrev pub names_of : Binding → List ℕ → List Due
names_of binding nodes = map (λ node. due.Names node binding) nodes

-- how many parts of a form stand before the name that it defines
abbrev pub lead : Bool → List ℕ → ℕ
lead false parts = 0
lead true [] = 0
lead true (part ∷ parts) = 1

-- the node whose names are due
abbrev pub node_of : Due → ℕ
node_of (due.Names node binding) = node
node_of (due.Defined node) = node

-- the node of what is due is there
abbrev pub IsThere : List Node → Due → Type 0
IsThere nodes item = node_of item < length nodes

-- the same of all that is due
abbrev pub AreDue : List Node → List Due → Type 0
AreDue nodes items = AllByRecursion (IsThere nodes) items

-- the names that are due
abbrev pub due_of : List Node → Due → List Binder
due_of nodes (due.Names node binding) = declared_in binding (tree_at nodes node)
due_of nodes (due.Defined node) = defined_at nodes node

-- all the names that are due, in their order
abbrev pub all_due : List Node → List Due → List Binder
all_due nodes [] = []
all_due nodes (item ∷ items) = due_of nodes item ++ all_due nodes items

-- of a node the name alone is due that it defines
abbrev pub defined : ℕ → Due
defined node = due.Defined node

-- how much is due, for an end
abbrev mutual
  pub size : Tree → ℕ
  size (Syntax.Node form s parts) = 2 + sizes parts

  -- the same of several trees
  pub sizes : Trees → ℕ
  sizes Syntax.Nil = 0
  sizes (Syntax.Cons x rest) = size x + sizes rest

-- how much one of these is: as much as its tree, or one for the defined name alone
abbrev pub size_of : List Node → Due → ℕ
size_of nodes (due.Names node binding) = size (tree_at nodes node)
size_of nodes (due.Defined node) = 1

-- how much all of these are together
abbrev pub all_size : List Node → List Due → ℕ
all_size nodes [] = 0
all_size nodes (item ∷ items) = size_of nodes item + all_size nodes items

-- the parts of a node are due in its place, but for its own name
pub record IsOpened (nodes : List Node) (node : ℕ) (binding : Binding) (old new : List Due) : Type 0 where
  pub due : AreDue nodes new
  pub names : declared_in binding (tree_at nodes node) ++ all_due nodes old ≡ bound_as binding (placed (node_at nodes node).form) ++ all_due nodes new
  pub less : all_size nodes new < size (tree_at nodes node) + all_size nodes old

-- what was due next is among the names, or due as its parts
pub record IsTaken (nodes : List Node) (next : Due) (before after : List Binder) (old new : List Due) : Type 0 where
  pub due : AreDue nodes new
  pub names : before ++ (due_of nodes next ++ all_due nodes old) ≡ after ++ all_due nodes new
  pub less : all_size nodes new < size_of nodes next + all_size nodes old
