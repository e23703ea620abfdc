-- How the nodes are kept: the numbers of all children in one list, a stretch of it for each node.
use Rattle.std.specs.Prelude.{◌≡◌, ℕ, ◌-◌, ◌<◌, ◌≤◌, max, List, [], ◌∷◌, length, take, drop, slice_index_or}
use Rattle.std.specs.List.{AllByRecursion}
use Rattle.tla_tree.specs.declared.tree.Node.{Node}
use Rattle.tla_tree.specs.Arena as Arena
use Rattle.tla_tree.specs.Arena.{height_at}

-- a kept node as one of the arena: its stretch of the numbers are its children
abbrev pub node_of : List ℕ → Node → Arena.Node
node_of numbers node =
    record { form = node.form; span = node.span; children = take (node.end - node.first) (drop node.first numbers) }

-- all kept nodes as those of the arena
abbrev pub nodes_of : List ℕ → List Node → List Arena.Node
nodes_of numbers [] = []
nodes_of numbers (node ∷ nodes) = node_of numbers node ∷ nodes_of numbers nodes

-- a node that stands where there is none
abbrev pub nowhere : Node
nowhere = record { form = Arena.nowhere.form; span = Arena.nowhere.span; height = 0; first = 0; end = 0 }

-- the kept node with a number
abbrev pub kept_at : List Node → ℕ → Node
kept_at nodes number = slice_index_or nodes number nowhere

-- the children of the node are a stretch of the list of numbers
abbrev pub IsStretch : List ℕ → Node → Type 0
IsStretch numbers node = (node.first ≤ node.end) × (node.end ≤ length numbers)

-- the greatest height of the children
abbrev pub highest_of : List Node → List ℕ → ℕ
highest_of nodes [] = 0
highest_of nodes (number ∷ numbers) = max (kept_at nodes number).height (highest_of nodes numbers)

-- the children come before their parents, and the heights are those of the trees
pub record IsStored (numbers : List ℕ) (nodes : List Node) : Type 0 where
  pub stretches : AllByRecursion (IsStretch numbers) nodes
  pub before : (number : ℕ) → number < length nodes → AllByRecursion (λ child. child < number) (Arena.node_at (nodes_of numbers nodes) number).children
  pub heights : (number : ℕ) → number < length nodes → (kept_at nodes number).height ≡ height_at (nodes_of numbers nodes) number
  pub low : (number : ℕ) → number < length nodes → (kept_at nodes number).height ≤ length nodes
