-- Numbers of nodes: nodes have one number where they have one tree, and there alone.
use Rattle.std.specs.Prelude.{◌≡◌, ℕ, ◌<◌, Bool, List, Option, Some, IfSome, length, slice_get}
use Rattle.std.specs.List.{AllByRecursion}
use Rattle.kind_text.specs.FlatModule.{FlatModule, UsesInstance}
use Rattle.resolved_trees.specs.Resolved.{Instance, Replaced, instance_at, parts_at, path_at, resolved}
use Rattle.tree_numbers.specs.declared.instances.Instances.{Instances}
use Rattle.tree_numbers.specs.declared.keys.Body.{Body}
use Rattle.tree_numbers.specs.declared.keys.Contents.{Contents}
use Rattle.tree_numbers.specs.declared.keys.Head.{Head}
use Rattle.tree_numbers.specs.declared.keys.Key.{Key}
use Rattle.tree_numbers.specs.declared.keys.Root.{Root}
use Rattle.tree_numbers.specs.declared.numbers.TreeNumbers.{TreeNumbers}
use Rattle.tree_numbers.specs.Keys.{definition_by, pieces_of, replacements_by}

-- nodes with one number have one tree
abbrev pub AreTold : FlatModule → List ℕ → Type 0
AreTold flat numbers = (i j n : ℕ) → slice_get numbers i ≡ Some n → slice_get numbers j ≡ Some n → resolved flat i ≡ resolved flat j

-- nodes with one tree have one number, if they have any
abbrev pub TellTrees : FlatModule → List ℕ → Type 0
TellTrees flat numbers = (i j n m : ℕ) → slice_get numbers i ≡ Some n → slice_get numbers j ≡ Some m → resolved flat i ≡ resolved flat j → n ≡ m

-- ---- what stands for something else

-- a node has the tree of another one
pub record IsSameNode (flat : FlatModule) (i other : ℕ) : Type 0 where
  pub here : i < length flat.nodes
  pub there : other < length flat.nodes
  pub same : resolved flat i ≡ resolved flat other

-- each node has the tree of the one that is its number
abbrev pub NumberNodes : FlatModule → List ℕ → Type 0
NumberNodes flat numbers = (i n : ℕ) → slice_get numbers i ≡ Some n → IsSameNode flat i n

-- an instance is there, and so is what stands for symbols in it
abbrev pub IsInstance : FlatModule → ℕ → Type 0
IsInstance flat j = UsesInstance flat (length flat.nodes) j

-- an instance has the contents of another one
pub record IsSameInstance (flat : FlatModule) (j other : ℕ) : Type 0 where
  pub here : IsInstance flat j
  pub there : IsInstance flat other
  pub same : instance_at flat (resolved flat) (slice_get flat.instances j) ≡ instance_at flat (resolved flat) (slice_get flat.instances other)

-- a path leads through such instances
pub record IsSamePath (flat : FlatModule) (path other : List ℕ) : Type 0 where
  pub there : AllByRecursion (IsInstance flat) other
  pub same : path_at flat (resolved flat) path ≡ path_at flat (resolved flat) other

-- ---- first ones

-- this is the number of some node
abbrev pub IsNumber : List ℕ → ℕ → Type 0
IsNumber numbers n = (i : ℕ) × (slice_get numbers i ≡ Some n)

-- this stands with some key
abbrev pub IsFirst : {K : Type 0} → List (K × ℕ) → ℕ → Type 0
IsFirst {K} entries n = (i : ℕ) × (key : K) × (slice_get entries i ≡ Some (key, n))

-- what stood with some key does so still
abbrev pub KeepsFirsts : {K : Type 0} → List (K × ℕ) → List (K × ℕ) → Type 0
KeepsFirsts old new = (n : ℕ) → IsFirst old n → IsFirst new n

-- of what is meant, no two are seen as the same
abbrev pub AreApart : {A : Type 0} → (ℕ → A) → (ℕ → Type 0) → Type 0
AreApart seen IsMeant = (n m : ℕ) → IsMeant n → IsMeant m → seen n ≡ seen m → n ≡ m

-- the tree of an instance
abbrev pub instance_tree : FlatModule → ℕ → Instance
instance_tree flat j = instance_at flat (resolved flat) (slice_get flat.instances j)

-- ---- what is kept

-- this is what a node is made of, by numbers
pub record IsMadeOf (flat : FlatModule) (head : Head) (path : List ℕ) (body : Option Body) (places : Option ℕ) (parts : List ℕ) (node : ℕ) : Type 0 where
  pub here : node < length flat.nodes
  pub along : AllByRecursion (IsInstance flat) path
  pub root : IfSome body (λ x. x.root < length flat.nodes)
  pub made : AllByRecursion (λ part. part < length flat.nodes) parts
  pub pieces : pieces_of (resolved flat node) ≡ Some (head, path_at flat (resolved flat) path, definition_by (resolved flat) body, places, parts_at flat (resolved flat) parts)

-- the same of a key
abbrev pub IsKey : FlatModule → Key → ℕ → Type 0
IsKey flat key = IsMadeOf flat key.head key.path.items key.body key.places key.parts.items

-- this is what an instance is made of, by numbers
pub record Holds (flat : FlatModule) (outer parameters : ℕ) (guards : Bool) (roots : List Root) (instance : ℕ) : Type 0 where
  pub here : IsInstance flat instance
  pub made : AllByRecursion (λ r. r.root < length flat.nodes) roots
  pub is : instance_at flat (resolved flat) (slice_get flat.instances instance) ≡ Replaced outer parameters guards (replacements_by (resolved flat) roots)

-- the same of contents
abbrev pub AreContents : FlatModule → Contents → ℕ → Type 0
AreContents flat contents = Holds flat contents.outer contents.parameters contents.guards contents.roots.items

-- contents are by numbers of nodes
abbrev pub HasNumbers : List ℕ → Contents → Type 0
HasNumbers numbers contents = AllByRecursion (λ r. IsNumber numbers r.root) contents.roots.items

-- a key is by numbers of nodes and by first instances
pub record IsByNumbers (numbers : List ℕ) (known : List (Contents × ℕ)) (key : Key) : Type 0 where
  pub path : AllByRecursion (IsFirst known) key.path.items
  pub root : IfSome key.body (λ x. IsNumber numbers x.root)
  pub parts : AllByRecursion (IsNumber numbers) key.parts.items

-- each contents are of their instance, and instances of other contents have other trees
pub record AreKnown (flat : FlatModule) (numbers : List ℕ) (known : List (Contents × ℕ)) : Type 0 where
  pub each : AllByRecursion (λ e. AreContents flat e.0 e.1) known
  pub numbered : AllByRecursion (λ e. HasNumbers numbers e.0) known
  pub apart : AreApart (instance_tree flat) (IsFirst known)

-- contents stay right with some that are by numbers
abbrev pub KeepsKnown : FlatModule → Contents → List (Contents × ℕ) → List (Contents × ℕ) → Type 0
KeepsKnown flat contents old new = (numbers : List ℕ) → AreApart (resolved flat) (IsNumber numbers) → HasNumbers numbers contents → AreKnown flat numbers old → AreKnown flat numbers new

-- each key is of its node, and nodes of other keys have other trees
pub record AreKeys (flat : FlatModule) (numbers : List ℕ) (known : List (Contents × ℕ)) (keys : List (Key × ℕ)) : Type 0 where
  pub each : AllByRecursion (λ e. IsKey flat e.0 e.1) keys
  pub numbered : AllByRecursion (λ e. IsByNumbers numbers known e.0) keys
  pub apart : AreApart (resolved flat) (IsFirst keys)

-- keys stay right with one that is by numbers
abbrev pub KeepsKeys : FlatModule → Key → List (Key × ℕ) → List (Key × ℕ) → Type 0
KeepsKeys flat key old new =
    (numbers : List ℕ) (known : List (Contents × ℕ)) → AreApart (resolved flat) (IsNumber numbers) → AreKnown flat numbers known → IsByNumbers numbers known key → AreKeys flat numbers known old
    → AreKeys flat numbers known new

-- each instance has the contents of the one that stands for it
abbrev pub AreFirst : FlatModule → List (ℕ × ℕ) → Type 0
AreFirst flat = AllByRecursion (λ e. IsSameInstance flat e.0 e.1)

-- what stands for instances is known
abbrev pub AreMet : List (Contents × ℕ) → List (ℕ × ℕ) → Type 0
AreMet known = AllByRecursion (λ e. IsFirst known e.1)

-- what is kept of instances is right
pub record AreInstances (flat : FlatModule) (numbers : List ℕ) (instances : Instances) : Type 0 where
  pub firsts : AreFirst flat instances.firsts.entries
  pub met : AreMet instances.known.entries instances.firsts.entries
  pub known : AreKnown flat numbers instances.known.entries

-- the number of each node stands with a key
abbrev pub AreFirstNodes : List (Key × ℕ) → List ℕ → Type 0
AreFirstNodes keys numbers = (n : ℕ) → IsNumber numbers n → IsFirst keys n

-- all that is kept is right
pub record IsNumbered (flat : FlatModule) (numbers : TreeNumbers) : Type 0 where
  pub nodes : NumberNodes flat numbers.nodes.items
  pub firsts : AreFirstNodes numbers.keys.entries numbers.nodes.items
  pub keys : AreKeys flat numbers.nodes.items numbers.instances.known.entries numbers.keys.entries
  pub instances : AreInstances flat numbers.nodes.items numbers.instances
