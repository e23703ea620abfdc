-- Trees as a list of nodes, each with the numbers of its children, which come before it.
use Rattle.std.specs.Prelude.{ℕ, ◌<◌, List, [], ◌∷◌, ◌++◌, length, slice_index_or, map}
use Rattle.std.specs.List.{AllByRecursion}
use Rattle.tla_symbols.specs.declared.lexeme.Span.{Span}
use Rattle.tla_tree.specs.declared.form.Form.{Form}
use Rattle.tla_tree.specs.Syntax as Syntax
use Rattle.tla_tree.specs.Syntax.{trees}

-- a form with the place of its lexemes, and the numbers of the nodes that are its parts
pub record Node : Type 0 where
  pub form : Form
  pub span : Span
  pub children : List ℕ

-- a node of no text, which stands where there is none
abbrev pub nowhere : Node
nowhere = record { form = Form.Names; span = record { start = 0; end = 0 }; children = [] }

-- the node with a number
abbrev pub node_at : List Node → ℕ → Node
node_at nodes number = slice_index_or nodes number nowhere

-- all of these are numbers of nodes
abbrev pub AreThere : List Node → List ℕ → Type 0
AreThere nodes numbers = AllByRecursion (λ number. number < length nodes) numbers

-- the known tree with a number, or one of no text where there is none
abbrev pub tree_of : List Syntax.Tree → ℕ → Syntax.Tree
tree_of known number = slice_index_or known number (Syntax.Node Form.Names nowhere.span Syntax.Nil)

-- the tree of a node, by the trees of the nodes before it
abbrev pub tree_over : List Syntax.Tree → Node → Syntax.Tree
tree_over known node = Syntax.Node node.form node.span (trees (map (tree_of known) node.children))

-- the trees of all nodes, after those that are known
unfoldable pub grown : List Syntax.Tree → List Node → List Syntax.Tree
grown known [] = known
grown known (node ∷ nodes) = grown (known ++ tree_over known node ∷ []) nodes

-- the tree below the node with a number
unfoldable pub tree_at : List Node → ℕ → Syntax.Tree
tree_at nodes number = tree_of (grown [] nodes) number

-- the height of the tree below the node with a number
abbrev pub height_at : List Node → ℕ → ℕ
height_at nodes number = Syntax.height (tree_at nodes number)
