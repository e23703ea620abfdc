-- What nodes and instances are made of, by the numbers of nodes.
use Rattle.std.specs.Prelude.{◌≡◌, ℕ, List, [], ◌∷◌, Option, Some, None, map, option_map, slice_get, slice_index_or}
use Rattle.std.specs.Hash as fed
use Rattle.kind_text.specs.FlatModule.{Definition, FlatModule, Form}
use Rattle.kind_table.specs.declared.flat.Instance as table_instance
use Rattle.kind_table.specs.declared.flat.Replacement as table_replacement
use Rattle.resolved_trees.specs.Resolved as trees
use Rattle.resolved_trees.specs.Resolved.{Parts, Path, Plain, Resolved}
use Rattle.tree_numbers.specs.declared.keys.Body as body
use Rattle.tree_numbers.specs.declared.keys.Contents.{Contents}
use Rattle.tree_numbers.specs.declared.keys.Head.{Head}
use Rattle.tree_numbers.specs.declared.keys.Head.TheVariants as head
use Rattle.tree_numbers.specs.declared.keys.Root as root

-- what is hashed of a head: its place, if it has one; the others are few
abbrev pub head_input : Head → List (List ℕ)
head_input (head.Parameter place) = fed.usize place
head_input (head.Call place) = fed.usize place
head_input other = []

-- the number of a node, and itself where it has none
abbrev pub number_in : List ℕ → ℕ → ℕ
number_in numbers i = slice_index_or numbers i i

-- what stands for a symbol, by its number
abbrev pub root_in : List ℕ → table_replacement.Replacement → root.Root
root_in numbers r = record { root = number_in numbers r.root; most = r.most }

-- this is what an instance is made of, by the numbers of nodes
pub record HasContents (numbers : List ℕ) (instance : table_instance.Instance) (contents : Contents) : Type 0 where
  pub outer : contents.outer ≡ instance.outer
  pub parameters : contents.parameters ≡ instance.parameters
  pub guards : contents.guards ≡ instance.guards
  pub roots : contents.roots.items ≡ map (root_in numbers) instance.replacements.items

-- ---- the parts of a form

-- a form without its path and its definition
abbrev pub head_of : Form → Head
head_of (Form.Leaf kind) = head.Leaf kind
head_of (Form.Parameter place) = head.Parameter place
head_of (Form.Call place) = head.Call place
head_of (Form.Operation rule) = head.Operation rule
head_of Form.Bounded = head.Bounded
head_of Form.Old = head.Old
head_of Form.Let = head.Let
head_of (Form.Use path d) = head.Use
head_of (Form.Name path d) = head.Name
head_of (Form.Symbol rule) = head.Symbol rule
head_of (Form.Lambda d) = head.Lambda

-- the instances of its path
abbrev pub path_in : Form → List ℕ
path_in (Form.Use path d) = path
path_in (Form.Name path d) = path
path_in form = []

-- the definition that it names
abbrev pub definition_in : Form → Option ℕ
definition_in (Form.Use path d) = Some d
definition_in (Form.Name path d) = Some d
definition_in (Form.Lambda d) = Some d
definition_in form = None

-- a definition, by the number of its body
abbrev pub numbered_body : List ℕ → Definition → body.Body
numbered_body numbers x = record { outer = x.outer; root = number_in numbers x.root }

-- one that may be there
abbrev pub body_at : FlatModule → List ℕ → ℕ → Option body.Body
body_at flat numbers d = option_map (numbered_body numbers) (slice_get flat.definitions d)

-- one that may be named
abbrev pub body_in : FlatModule → List ℕ → Option ℕ → Option body.Body
body_in flat numbers None = None
body_in flat numbers (Some d) = body_at flat numbers d

-- ---- the trees that they stand for

-- what a tree is made of: its head, its path, its definition, its places and its parts
abbrev pub Pieces : Type 0
Pieces = Head × Path × trees.Definition × Option ℕ × Parts

-- the head of a form that uses no definition
abbrev pub plain_head : Plain → Head
plain_head (trees.Leaf kind) = head.Leaf kind
plain_head (trees.Parameter place) = head.Parameter place
plain_head (trees.Call place) = head.Call place
plain_head (trees.Operation rule) = head.Operation rule
plain_head trees.Bounded = head.Bounded
plain_head trees.Old = head.Old
plain_head trees.Let = head.Let
plain_head (trees.Symbol rule) = head.Symbol rule

-- the pieces of a tree, where a node is there
abbrev pub pieces_of : Resolved → Option Pieces
pieces_of trees.Missing = None
pieces_of (trees.Node form places parts) = Some (plain_head form, trees.End, trees.Undefined, places, parts)
pieces_of (trees.Use path definition places parts) = Some (head.Use, path, definition, places, parts)
pieces_of (trees.Name path definition places parts) = Some (head.Name, path, definition, places, parts)
pieces_of (trees.Lambda definition places parts) = Some (head.Lambda, trees.End, definition, places, parts)

-- the definition that a body stands for
abbrev pub definition_by : (ℕ → Resolved) → Option body.Body → trees.Definition
definition_by f None = trees.Undefined
definition_by f (Some x) = trees.Body x.outer (f x.root)

-- what stands for symbols
abbrev pub replacements_by : (ℕ → Resolved) → List root.Root → trees.Replacements
replacements_by f [] = trees.Over
replacements_by f (r ∷ rest) = trees.Replace (f r.root) r.most (replacements_by f rest)
