-- What is found of nodes and of paths.
use Rattle.std.specs.Prelude.{◌≡◌, ℕ, ◌+◌, ◌<◌, ◌≤◌, ◌++◌, ◌==◌, ◌&&◌, List, [], Bool, true, false, Option, Some, None, if◌then◌else◌, length, map, max, slice_get, slice_index_or, take}
use Rattle.std.specs.List.{AllByRecursion}
use Rattle.tla_symbols.specs.declared.level.Kind.{Kind}
use Rattle.kind_text.specs.ExpandedKind.{is_at_most, kind}
use Rattle.kind_text.specs.Substitution.{Alike, Item, Same, at, expressions, operator}
use Rattle.kind_text.specs.FlatModule as flat
use Rattle.kind_text.specs.FlatModule.{FlatModule, UsesInstance}
use Rattle.kind_text.specs.Expansion as expansion
use Rattle.kind_text.specs.Expansion.{along_path, applied_to_rest, body, guards_of, items, start, text, through}
use Rattle.kind_table.specs.declared.argument.Arg.{Arg}
use Rattle.kind_table.specs.declared.flat.Instance.{Instance}
use Rattle.kind_table.specs.Flattened.{first_node, instance_of}
use Rattle.kind_table.specs.Table.{AllWithin, Grows, meaning, meanings}
use Rattle.kind_table.specs.Weights.{body_cost, heaviest, load, longest, lower_cost, node_cost, times, weight}
use Rattle.level_facts.specs.declared.steps.Reached.{Reached}

-- the work of the node before a node
abbrev pub lower_cost_of : FlatModule → ℕ → ℕ
lower_cost_of flat = lower_cost (longest flat.nodes)

-- the number of what a node stands for
pub record IsFound (flat : FlatModule) (table : List Arg) (node : ℕ) (frame : List ℕ) (n : ℕ) : Type 0 where
  pub within : n < length table
  pub same : Same (meaning flat table n) (text flat node (meanings flat table frame))
  pub light : weight flat table n ≤ load flat table frame + node_cost flat node

-- a node was judged
pub record Evaluates (flat : FlatModule) (old new : List Arg) (node : ℕ) (frame : List ℕ) (n : ℕ) : Type 0 where
  pub grows : Grows old new
  pub found : IsFound flat new node frame n

-- nodes were judged, in order
pub record EvaluatesAll (flat : FlatModule) (old new : List Arg) (nodes frame ns : List ℕ) : Type 0 where
  pub grows : Grows old new
  pub within : AllWithin new ns
  pub same : Alike (meanings flat new ns) (items (text flat) nodes (meanings flat new frame))
  pub light : load flat new ns ≤ load flat new frame + heaviest (node_cost flat) nodes

-- what was found of the nodes from start to this one, where they begin at start or later
pub record Found (flat : FlatModule) (table : List Arg) (start node : ℕ) (frame found : List ℕ) : Type 0 where
  pub long : start + length found ≡ node
  pub each : (k : ℕ) → k < length found → start ≤ first_node flat (start + k) → IsFound flat table (start + k) frame (slice_index_or found k 0)

-- a node was judged, where it begins at start or later
pub record Steps (flat : FlatModule) (old new : List Arg) (start node : ℕ) (frame : List ℕ) (n : ℕ) : Type 0 where
  pub grows : Grows old new
  pub found : start ≤ first_node flat node → IsFound flat new node frame n

-- what was found of a node's parts
pub record Picked (flat : FlatModule) (table : List Arg) (node : ℕ) (parts frame ns : List ℕ) : Type 0 where
  pub within : AllWithin table ns
  pub same : Alike (meanings flat table ns) (items (text flat) parts (meanings flat table frame))
  pub light : load flat table ns ≤ load flat table frame + lower_cost_of flat node

-- what stands at a place of a frame
pub record IsOperand (flat : FlatModule) (old new : List Arg) (frame : List ℕ) (place n : ℕ) : Type 0 where
  pub grows : Grows old new
  pub within : n < length new
  pub is : meaning flat new n ≡ at (meanings flat new frame) place
  pub light : weight flat new n ≤ load flat new frame

-- a definition as an operator, where this stands round it
pub record IsClosure (flat : FlatModule) (old new : List Arg) (d : ℕ) (frame : List ℕ) (n : ℕ) : Type 0 where
  pub grows : Grows old new
  pub within : n < length new
  pub same : Same (meaning flat new n) (operator (λ ts. body (text flat) (slice_get flat.definitions d) (λ outer. take outer (meanings flat new frame) ++ expressions ts)))
  pub light : weight flat new n ≤ load flat new frame + body_cost flat (slice_get flat.definitions d)

-- ---- paths

-- the instances of a path lie before a node
abbrev pub UsesPath : FlatModule → ℕ → List ℕ → Type 0
UsesPath flat node = AllByRecursion (UsesInstance flat node)

-- nothing is put in for an instance: it has no parameters, and its module no symbols
abbrev pub puts_nothing_in : Option flat.Instance → Bool
puts_nothing_in None = false
puts_nothing_in (Some j) = (j.parameters == 0) && (length j.replacements == 0)

-- numbers are what a path has led to
pub record Reaches (flat : FlatModule) (table : List Arg) (r : Reached) (reached : expansion.Reached) : Type 0 where
  pub frame : Alike (meanings flat table r.frame.items) reached.frame
  pub rest : Alike (meanings flat table r.rest.items) reached.rest
  pub met : r.met ≡ expansion.are_met reached.guards

-- the numbers that a path has led to stand in a table
pub record IsReached (table : List Arg) (r : Reached) : Type 0 where
  pub frame : AllWithin table r.frame.items
  pub rest : AllWithin table r.rest.items

-- whether a kind is within a bound, if there is one
abbrev pub is_within : Option ℕ → Option Kind → Bool
is_within None kind = true
is_within (Some most) kind = is_at_most most kind

-- the replacements of an instance are within their bounds
pub record MeetsGuards (flat : FlatModule) (old new : List Arg) (j : Instance) (ns : List ℕ) (met : Bool) : Type 0 where
  pub grows : Grows old new
  pub is : (s : List Item) → Alike (meanings flat old ns) (items (text flat) (map (λ r. r.root) (instance_of j).replacements) s)
      → met ≡ expansion.are_met (if j.guards then guards_of flat (text flat) (instance_of j).replacements s else [])

-- what stands round what an instance is made of: what stands round its name, and its arguments
abbrev pub around_of : Instance → Reached → List ℕ
around_of j r = take j.outer r.frame.items ++ take j.parameters r.rest.items

-- one instance further
pub record LeadsThrough (flat : FlatModule) (old new : List Arg) (node j : ℕ) (r next : Reached) : Type 0 where
  pub grows : Grows old new
  pub within : IsReached new next
  pub reaches : (x : expansion.Reached) → Reaches flat old r x → Reaches flat new next (through flat (text flat) (slice_get flat.instances j) x)
  pub light : load flat new next.frame.items ≤ max (load flat old r.frame.items) (load flat old r.rest.items) + lower_cost_of flat node
  pub rest_light : load flat new next.rest.items ≤ load flat old r.rest.items

-- behind a path
pub record ReachesPath (flat : FlatModule) (old new : List Arg) (node : ℕ) (path frame ns : List ℕ) (r : Reached) : Type 0 where
  pub grows : Grows old new
  pub within : IsReached new r
  pub reaches : Reaches flat new r (along_path flat (text flat) path (start (meanings flat old frame) (meanings flat old ns)))
  pub light : load flat new r.frame.items ≤ max (load flat old frame) (load flat old ns) + times (length path) (lower_cost_of flat node)
  pub rest_light : load flat new r.rest.items ≤ load flat old ns

-- the kind of a definition behind a path, on arguments
abbrev pub use_kind_of : FlatModule → List ℕ → ℕ → List Item → List Item → Option Kind
use_kind_of flat path d s arguments = kind (applied_to_rest flat (text flat) (along_path flat (text flat) path (start s arguments)) d)
