-- The depth of definitions: how far uses lead down.
use Rattle.std.specs.Prelude.{ℕ, suc, ◌+◌, Bool, List, [], ◌∷◌, Option, Some, None, drop, filter, if◌then◌else◌, is_some, map, max, nat_lt, slice_get, take}
use Rattle.order_rec.specs.Earlier.{along}
use Rattle.kind_text.specs.FlatModule.{Definition, FlatModule, Form, Instance, Node, places_of}

-- the greatest of the depths of these nodes; of none it is 0
abbrev pub greatest : (ℕ → ℕ) → List ℕ → ℕ
greatest f [] = 0
greatest f (i ∷ rest) = max (f i) (greatest f rest)

-- the depth of what stands in a definition
abbrev pub inner_depth : (ℕ → ℕ) → Option Definition → ℕ
inner_depth f None = 0
inner_depth f (Some definition) = f definition.root

-- the depth of a definition: 1 more than that of its body
abbrev pub depth_of : (ℕ → ℕ) → Option Definition → ℕ
depth_of f None = 0
depth_of f (Some definition) = suc (f definition.root)

-- the greatest depth of the replacements of an instance
abbrev pub replaced_depth : (ℕ → ℕ) → Option Instance → ℕ
replaced_depth f None = 0
replaced_depth f (Some j) = greatest f (map (λ r. r.root) j.replacements)

-- the depth of a module definition: 1 more than that of its replacements
abbrev pub instance_depth : (ℕ → ℕ) → Option Instance → ℕ
instance_depth f None = 0
instance_depth f (Some j) = suc (replaced_depth f (Some j))

-- how many arguments an instance takes
abbrev pub parameters_of : Option Instance → ℕ
parameters_of None = 0
parameters_of (Some j) = j.parameters

-- how deep nodes are, by the depths of earlier ones
module _ (flat : FlatModule) (f : ℕ → ℕ) where
  -- of arguments, bare operators alone count
  abbrev pub operator_depth : ℕ → ℕ
  operator_depth i = if is_some (places_of (slice_get flat.nodes i)) then f i else 0

  -- how many arguments the instances of a path take
  abbrev pub parameters_on : List ℕ → ℕ
  parameters_on [] = 0
  parameters_on (j ∷ path) = parameters_of (slice_get flat.instances j) + parameters_on path

  -- the greatest depth of the replacements on a path
  abbrev pub replaced_on : List ℕ → ℕ
  replaced_on [] = 0
  replaced_on (j ∷ path) = max (replaced_depth f (slice_get flat.instances j)) (replaced_on path)

  -- what a use adds: the greatest depth of the arguments and replacements on its path, and of its operator arguments
  abbrev pub added_depth : List ℕ → List ℕ → ℕ
  added_depth path parts =
      max (replaced_on path) (max (greatest f (take (parameters_on path) parts)) (greatest operator_depth (drop (parameters_on path) parts)))

  -- the depth of a use of a definition
  abbrev pub use_depth : List ℕ → ℕ → List ℕ → ℕ
  use_depth path d parts = depth_of f (slice_get flat.definitions d) + added_depth path parts

  -- the depth of a form over its parts: the greatest of the uses in it; what `@` repeats is no use there
  abbrev pub form_depth : Form → List ℕ → ℕ
  form_depth (Form.Use path d) parts = max (greatest f parts) (use_depth path d parts)
  form_depth (Form.Name path d) parts = max (greatest f parts) (use_depth path d parts)
  form_depth (Form.Lambda d) parts = inner_depth f (slice_get flat.definitions d)
  form_depth Form.Old parts = 0
  form_depth form parts = greatest f parts

  -- the depth of a node
  abbrev pub node_depth : Option Node → ℕ
  node_depth None = 0
  node_depth (Some node) = form_depth node.form node.parts

-- the depth of a node
abbrev pub depth : FlatModule → ℕ → ℕ
depth flat = along 0 (λ i f. node_depth flat f (slice_get flat.nodes i))

-- ---- faults of depth

-- deeper than a definition, an assumption or a theorem may be
abbrev pub is_too_deep : ℕ → Bool
is_too_deep n = nat_lt 1000 n

-- of these definitions, those that are too deep
abbrev pub deep_definitions : FlatModule → List ℕ → List ℕ
deep_definitions flat ds = filter (λ d. is_too_deep (depth_of (depth flat) (slice_get flat.definitions d))) ds

-- of these instances, those whose module definition is too deep
abbrev pub deep_instances : FlatModule → List ℕ → List ℕ
deep_instances flat js = filter (λ j. is_too_deep (instance_depth (depth flat) (slice_get flat.instances j))) js

-- of these assumptions and theorems, those that are too deep
abbrev pub deep_expressions : FlatModule → List ℕ → List ℕ
deep_expressions flat is = filter (λ i. is_too_deep (depth flat i)) is
