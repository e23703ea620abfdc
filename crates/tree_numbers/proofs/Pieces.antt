-- Trees that have the same pieces are the same.
use Rattle.std.proofs.Common.{◌≡◌, ℕ, Option, None, Some, refl, sym, ap, ◌∙◌}
use Rattle.resolved_trees.specs.Resolved as trees
use Rattle.resolved_trees.specs.Resolved.{Parts, Path, Resolved}
use Rattle.tree_numbers.specs.declared.keys.Head.{Head}
use Rattle.tree_numbers.specs.declared.keys.Head.TheVariants as head
use Rattle.tree_numbers.specs.Keys.{Pieces, pieces_of}

-- the tree of a head, over those of what it is made of
abbrev tree_by : Head → Path → trees.Definition → Option ℕ → Parts → Resolved
tree_by (head.Leaf kind) path definition places parts = trees.Node (trees.Leaf kind) places parts
tree_by (head.Parameter place) path definition places parts = trees.Node (trees.Parameter place) places parts
tree_by (head.Call place) path definition places parts = trees.Node (trees.Call place) places parts
tree_by (head.Operation rule) path definition places parts = trees.Node (trees.Operation rule) places parts
tree_by head.Bounded path definition places parts = trees.Node trees.Bounded places parts
tree_by head.Old path definition places parts = trees.Node trees.Old places parts
tree_by head.Let path definition places parts = trees.Node trees.Let places parts
tree_by head.Use path definition places parts = trees.Use path definition places parts
tree_by head.Name path definition places parts = trees.Name path definition places parts
tree_by (head.Symbol rule) path definition places parts = trees.Node (trees.Symbol rule) places parts
tree_by head.Lambda path definition places parts = trees.Lambda definition places parts

-- the tree of pieces that may be there
abbrev tree_of : Option Pieces → Resolved
tree_of None = trees.Missing
tree_of (Some p) = tree_by p.0 p.1 p.2 p.3 p.4

tree_of-pieces : (t : Resolved) → tree_of (pieces_of t) ≡ t
tree_of-pieces trees.Missing = refl
tree_of-pieces (trees.Node (trees.Leaf kind) places parts) = refl
tree_of-pieces (trees.Node (trees.Parameter place) places parts) = refl
tree_of-pieces (trees.Node (trees.Call place) places parts) = refl
tree_of-pieces (trees.Node (trees.Operation rule) places parts) = refl
tree_of-pieces (trees.Node trees.Bounded places parts) = refl
tree_of-pieces (trees.Node trees.Old places parts) = refl
tree_of-pieces (trees.Node trees.Let places parts) = refl
tree_of-pieces (trees.Node (trees.Symbol rule) places parts) = refl
tree_of-pieces (trees.Use path definition places parts) = refl
tree_of-pieces (trees.Name path definition places parts) = refl
tree_of-pieces (trees.Lambda definition places parts) = refl

pub pieces-exact : (one other : Resolved) → pieces_of one ≡ pieces_of other → one ≡ other
pieces-exact one other same = sym (tree_of-pieces one) ∙ ap tree_of same ∙ tree_of-pieces other
