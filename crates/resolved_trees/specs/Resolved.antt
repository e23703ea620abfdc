-- Resolved trees: nodes of a flat module as values, with the definitions and the instances that they use in place of the numbers
-- of these. A tree is what a node is made of, and no more.
use Rattle.std.specs.Prelude.{ℕ, zero, suc, ◌+◌, Bool, List, [], ◌∷◌, ◌++◌, Option, Some, None, drop, if◌then◌else◌, is_some, max, slice_get, take}
use Rattle.tla_symbols.specs.declared.level.Kind.{Kind}
use Rattle.tla_symbols.specs.declared.level.Rule.{Rule}
use Rattle.tla_symbols.specs.declared.level.Rule.TheVariants.{Boolean}
use Rattle.order_rec.specs.Earlier.{along}
use Rattle.kind_text.specs.ExpandedKind.{Expanded, Given, Ruled}
use Rattle.kind_text.specs.Expansion.{Guard, Reached, bounded, guard, guarded_by, nothing, start}
use Rattle.kind_text.specs.FlatModule.{FlatModule, Form}
use Rattle.kind_text.specs.FlatModule as flat_module
use Rattle.kind_text.specs.Substitution.{Item, at, expression, expressions, judged, operator, texts}

-- a form that uses no definition
pub data Plain : Type 0 where
  Leaf : (kind : Kind) → Plain
  Parameter : (place : ℕ) → Plain
  Call : (place : ℕ) → Plain
  Operation : (rule : Rule) → Plain
  Bounded : Plain
  Old : Plain
  Let : Plain
  Symbol : (rule : Rule) → Plain

mutual
  -- a tree, with the number of places of a bare operator
  pub data Resolved : Type 0 where
    -- no node is there
    Missing : Resolved
    -- a form that uses no definition, on its parts
    Node : (form : Plain) (places : Option ℕ) (parts : Parts) → Resolved
    -- a definition behind a path of instances, on arguments
    Use : (path : Path) (definition : Definition) (places : Option ℕ) (parts : Parts) → Resolved
    -- the same as a bare operator
    Name : (path : Path) (definition : Definition) (places : Option ℕ) (parts : Parts) → Resolved
    -- LAMBDA
    Lambda : (definition : Definition) (places : Option ℕ) (parts : Parts) → Resolved

  -- trees, in order
  pub data Parts : Type 0 where
    Nil : Parts
    Cons : (first : Resolved) (rest : Parts) → Parts

  -- a definition: how many places stand round it, and its body
  pub data Definition : Type 0 where
    Undefined : Definition
    Body : (outer : ℕ) (root : Resolved) → Definition

  -- instances, one behind another
  pub data Path : Type 0 where
    End : Path
    Through : (instance : Instance) (rest : Path) → Path

  -- an instance: how many places stand round it, its number of parameters, whether it guards, and what stands for symbols
  pub data Instance : Type 0 where
    Absent : Instance
    Replaced : (outer parameters : ℕ) (guards : Bool) (replacements : Replacements) → Instance

  -- what stands for symbols, each with the greatest level that it may have
  pub data Replacements : Type 0 where
    Over : Replacements
    Replace : (root : Resolved) (most : Option ℕ) (rest : Replacements) → Replacements

-- the number of places of a bare operator
abbrev pub places_in : Resolved → Option ℕ
places_in Missing = None
places_in (Node form places parts) = places
places_in (Use path definition places parts) = places
places_in (Name path definition places parts) = places
places_in (Lambda definition places parts) = places

-- ---- trees of nodes

module _ (flat : FlatModule) (f : ℕ → Resolved) where
  -- the trees of these nodes
  abbrev pub parts_at : List ℕ → Parts
  parts_at [] = Nil
  parts_at (i ∷ rest) = Cons (f i) (parts_at rest)

  -- a definition that may be there
  abbrev pub definition_at : Option flat_module.Definition → Definition
  definition_at None = Undefined
  definition_at (Some x) = Body x.outer (f x.root)

  -- what stands for symbols
  abbrev pub replacements_at : List flat_module.Replacement → Replacements
  replacements_at [] = Over
  replacements_at (r ∷ rest) = Replace (f r.root) r.most (replacements_at rest)

  -- an instance that may be there
  abbrev pub instance_at : Option flat_module.Instance → Instance
  instance_at None = Absent
  instance_at (Some x) = Replaced x.outer x.parameters x.guards (replacements_at x.replacements)

  -- the instances of a path
  abbrev pub path_at : List ℕ → Path
  path_at [] = End
  path_at (j ∷ path) = Through (instance_at (slice_get flat.instances j)) (path_at path)

  -- a form over its parts
  abbrev pub form_at : Form → Option ℕ → List ℕ → Resolved
  form_at (Form.Leaf kind) places parts = Node (Leaf kind) places (parts_at parts)
  form_at (Form.Parameter place) places parts = Node (Parameter place) places (parts_at parts)
  form_at (Form.Call place) places parts = Node (Call place) places (parts_at parts)
  form_at (Form.Operation rule) places parts = Node (Operation rule) places (parts_at parts)
  form_at Form.Bounded places parts = Node Bounded places (parts_at parts)
  form_at Form.Old places parts = Node Old places (parts_at parts)
  form_at Form.Let places parts = Node Let places (parts_at parts)
  form_at (Form.Use path d) places parts = Use (path_at path) (definition_at (slice_get flat.definitions d)) places (parts_at parts)
  form_at (Form.Name path d) places parts = Name (path_at path) (definition_at (slice_get flat.definitions d)) places (parts_at parts)
  form_at (Form.Symbol rule) places parts = Node (Symbol rule) places (parts_at parts)
  form_at (Form.Lambda d) places parts = Lambda (definition_at (slice_get flat.definitions d)) places (parts_at parts)

  -- a node that may be there
  abbrev pub node_at : Option flat_module.Node → Resolved
  node_at None = Missing
  node_at (Some node) = form_at node.form node.places node.parts

-- the tree of a node
abbrev pub resolved : FlatModule → ℕ → Resolved
resolved flat = along Missing (λ i f. node_at flat f (slice_get flat.nodes i))

-- ---- what trees expand to

-- the first of some items
abbrev pub first_of : List Item → List Item → Item
first_of [] s = nothing s
first_of (x ∷ rest) s = x

-- a form that uses no definition, on its parts, with items put in
abbrev pub plain_item : Plain → List Item → List Item → Item
plain_item (Leaf kind) parts s = expression (Given (Some kind))
plain_item (Parameter place) parts s = at s place
plain_item (Call place) parts s = expression ((at s place).call (texts parts))
plain_item (Operation rule) parts s = expression (Ruled rule (texts parts))
plain_item Bounded parts s = expression (bounded (texts parts))
plain_item Old parts s = expression (Ruled Boolean (texts parts))
plain_item Let parts s = first_of parts s
plain_item (Symbol rule) parts s = operator (Ruled rule)

-- a body behind a path, on arguments
abbrev pub used_on : Reached → ((ℕ → List Item) → Expanded) → List Item → Expanded
used_on reached body arguments = guard reached.guards (body (λ outer. take outer reached.frame ++ arguments))

-- a body behind a path, on the arguments that the path leaves
abbrev pub used_by : Reached → ((ℕ → List Item) → Expanded) → Expanded
used_by reached body = used_on reached body reached.rest

abbrev mutual
  -- what a tree expands to, with items put in
  pub item_of : Resolved → List Item → Item
  item_of Missing s = nothing s
  item_of (Node form places parts) s = plain_item form (items_of parts s) s
  item_of (Use path definition places parts) s = expression (used_by (reached_along path (start s (items_of parts s))) (body_of definition))
  item_of (Name path definition places parts) s = operator (λ ts. used_on (reached_along path (start s (items_of parts s))) (body_of definition) (expressions ts))
  item_of (Lambda definition places parts) s = operator (λ ts. used_on (start s []) (body_of definition) (expressions ts))

  -- the same of each
  pub items_of : Parts → List Item → List Item
  items_of Nil s = []
  items_of (Cons first rest) s = item_of first s ∷ items_of rest s

  -- a definition's body
  pub body_of : Definition → (ℕ → List Item) → Expanded
  body_of Undefined frame = Given None
  body_of (Body outer root) frame = (item_of root (frame outer)).text

  -- behind a path of instances
  pub reached_along : Path → Reached → Reached
  reached_along End reached = reached
  reached_along (Through instance rest) reached = reached_along rest (reached_through instance reached)

  -- one instance further, with its arguments
  pub reached_through : Instance → Reached → Reached
  reached_through Absent reached = reached
  reached_through (Replaced outer parameters guards replacements) reached =
      record {
        frame = replaced_items replacements (take outer reached.frame ++ take parameters reached.rest);
        guards = reached.guards ++ (if guards then guards_in replacements (take outer reached.frame ++ take parameters reached.rest) else []);
        rest = drop parameters reached.rest;
      }

  -- what stands for symbols
  pub replaced_items : Replacements → List Item → List Item
  replaced_items Over s = []
  replaced_items (Replace root most rest) s = item_of root s ∷ replaced_items rest s

  -- its guards
  pub guards_in : Replacements → List Item → List Guard
  guards_in Over s = []
  guards_in (Replace root most rest) s = guarded_by most (judged (places_in root) (item_of root s)) ++ guards_in rest s

-- ---- how deep trees are

-- of an argument, a bare operator alone counts
abbrev pub operator_depth : Option ℕ → ℕ → ℕ
operator_depth places n = if is_some places then n else 0

-- how many arguments an instance takes
abbrev pub parameters_of : Instance → ℕ
parameters_of Absent = 0
parameters_of (Replaced outer parameters guards replacements) = parameters

-- how many arguments the instances of a path take
abbrev pub parameters_on : Path → ℕ
parameters_on End = 0
parameters_on (Through instance rest) = parameters_of instance + parameters_on rest

-- the depth of a form that uses no definition, by the greatest of its parts; what `@` repeats is no use there
abbrev pub plain_depth : Plain → ℕ → ℕ
plain_depth Old n = 0
plain_depth form n = n

abbrev mutual
  -- how deep a tree is
  pub depth_in : Resolved → ℕ
  depth_in Missing = 0
  depth_in (Node form places parts) = plain_depth form (greatest_in parts)
  depth_in (Use path definition places parts) =
      max (greatest_in parts) (depth_of definition + max (replaced_on path) (max (greatest_first (parameters_on path) parts) (greatest_behind (parameters_on path) parts)))
  depth_in (Name path definition places parts) =
      max (greatest_in parts) (depth_of definition + max (replaced_on path) (max (greatest_first (parameters_on path) parts) (greatest_behind (parameters_on path) parts)))
  depth_in (Lambda definition places parts) = inner_depth definition

  -- the greatest depth of trees; of none it is 0
  pub greatest_in : Parts → ℕ
  greatest_in Nil = 0
  greatest_in (Cons first rest) = max (depth_in first) (greatest_in rest)

  -- the same of so many first ones
  pub greatest_first : ℕ → Parts → ℕ
  greatest_first n Nil = 0
  greatest_first zero (Cons first rest) = 0
  greatest_first (suc n) (Cons first rest) = max (depth_in first) (greatest_first n rest)

  -- the greatest depth of the bare operators behind so many
  pub greatest_behind : ℕ → Parts → ℕ
  greatest_behind n Nil = 0
  greatest_behind zero (Cons first rest) = max (operator_depth (places_in first) (depth_in first)) (greatest_behind zero rest)
  greatest_behind (suc n) (Cons first rest) = greatest_behind n rest

  -- the depth of a definition: 1 more than that of its body
  pub depth_of : Definition → ℕ
  depth_of Undefined = 0
  depth_of (Body outer root) = suc (depth_in root)

  -- the depth of what stands in a definition
  pub inner_depth : Definition → ℕ
  inner_depth Undefined = 0
  inner_depth (Body outer root) = depth_in root

  -- the greatest depth of the replacements on a path
  pub replaced_on : Path → ℕ
  replaced_on End = 0
  replaced_on (Through instance rest) = max (replaced_in instance) (replaced_on rest)

  -- of an instance
  pub replaced_in : Instance → ℕ
  replaced_in Absent = 0
  replaced_in (Replaced outer parameters guards replacements) = greatest_replaced replacements

  -- of what stands for symbols
  pub greatest_replaced : Replacements → ℕ
  greatest_replaced Over = 0
  greatest_replaced (Replace root most rest) = max (depth_in root) (greatest_replaced rest)
