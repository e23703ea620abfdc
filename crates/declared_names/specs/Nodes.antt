-- What stands at a node of a tree in code.
use Rattle.std.specs.Prelude.{◌≡◌, ℕ, List, map}
use Rattle.tla_tree.specs.declared.form.Form.{Form}
use Rattle.tla_tree.specs.Arena.{Node, node_at, tree_at}
use Rattle.tla_tree.specs.Syntax as Syntax
use Rattle.tla_tree.specs.Syntax.{Trees, trees}
use Rattle.tla_model.specs.declared.names.Binder.{Binder}
use Rattle.tla_model.specs.Entities.{defined}
use Rattle.tla_model.specs.Scopes.{binders}

-- the form of the node with a number
abbrev pub form_at : List Node → ℕ → Form
form_at nodes node = (node_at nodes node).form

-- the trees of that node's children
abbrev pub parts_at : List Node → ℕ → Trees
parts_at nodes node = trees (map (tree_at nodes) (node_at nodes node).children)

-- the names that a node binds for its parts
abbrev pub binders_at : List Node → ℕ → List Binder
binders_at nodes node = binders (form_at nodes node) (parts_at nodes node)

-- the name that a node defines
abbrev pub defined_at : List Node → ℕ → List Binder
defined_at nodes node = defined (form_at nodes node) (parts_at nodes node)

-- the tree of a node, whose parts are those of its children
abbrev pub IsWhole : List Node → ℕ → Type 0
IsWhole nodes node = tree_at nodes node ≡ Syntax.Node (form_at nodes node) (node_at nodes node).span (parts_at nodes node)
