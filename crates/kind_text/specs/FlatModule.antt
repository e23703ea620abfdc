-- The definitions of modules with their names resolved, in the order of declarations: each is made of earlier ones alone.
-- What stands round an expression is known by place: the symbols that the module declares or extends, then the parameters
-- of the definitions round it, from the outermost one in.
use Rattle.std.specs.Prelude.{◌≡◌, ℕ, ◌<◌, Bool, List, Option, Some, None, slice_get}
use Rattle.std.specs.List.{AllByRecursion}
use Rattle.tla_symbols.specs.declared.level.Kind.{Kind}
use Rattle.tla_symbols.specs.declared.level.Rule.{Rule}

-- what a node is; definitions, and instances of a path, are told by number
pub data Form : Type 0 where
  -- of a kind of its own: a number, a string, a bound name
  Leaf : (kind : Kind) → Form
  -- the symbol or parameter at a place
  Parameter : (place : ℕ) → Form
  -- the operator at a place, on its operands
  Call : (place : ℕ) → Form
  -- a form with a rule of levels, on its operands
  Operation : (rule : Rule) → Form
  -- `\A` or `\E` over sets: the body, and then the sets
  Bounded : Form
  -- `@`: the function and the indices of its EXCEPT
  Old : Form
  -- LET: the body, and then what stands in its definitions
  Let : Form
  -- a definition behind a path of instances: the arguments of these, and then its own
  Use : (path : List ℕ) (definition : ℕ) → Form
  -- the same as a bare operator: the arguments of the path
  Name : (path : List ℕ) (definition : ℕ) → Form
  -- a bare built-in operator
  Symbol : (rule : Rule) → Form
  -- LAMBDA, as a definition of its own
  Lambda : (definition : ℕ) → Form

-- a node, with the earlier nodes that are its parts, and the number of places of a bare operator
pub record Node : Type 0 where
  pub form : Form
  pub places : Option ℕ
  pub parts : List ℕ

-- the definition of an operator or of a function: the node of its body, and how many places stand round it
pub record Definition : Type 0 where
  pub outer : ℕ
  pub root : ℕ

-- what stands for one symbol of a module, and the greatest level that it may have; a symbol that stays has none
pub record Replacement : Type 0 where
  pub root : ℕ
  pub most : Option ℕ

-- an instance: how many places stand round it, its number of parameters, and what stands at each place round what its module
-- defines. One without a name guards nothing, and so does a module that is extended.
pub record Instance : Type 0 where
  pub outer : ℕ
  pub parameters : ℕ
  pub guards : Bool
  pub replacements : List Replacement

-- what a module and those that it reaches define
pub record FlatModule : Type 0 where
  pub nodes : List Node
  pub definitions : List Definition
  pub instances : List Instance

-- the places of the bare operator that a node is
abbrev pub places_of : Option Node → Option ℕ
places_of None = None
places_of (Some node) = node.places

-- ---- the order

-- a definition is there, and its body lies before a node
abbrev pub UsesDefinition : FlatModule → ℕ → ℕ → Type 0
UsesDefinition flat i d = (x : Definition) × (slice_get flat.definitions d ≡ Some x) × (x.root < i)

-- an instance is there, and its replacements lie before a node
abbrev pub UsesInstance : FlatModule → ℕ → ℕ → Type 0
UsesInstance flat i j = (x : Instance) × (slice_get flat.instances j ≡ Some x) × AllByRecursion (λ r. r.root < i) x.replacements

-- what a form names lies before its node
abbrev pub UsesEarlier : FlatModule → ℕ → Form → Type 0
UsesEarlier flat i (Form.Use path d) = AllByRecursion (UsesInstance flat i) path × UsesDefinition flat i d
UsesEarlier flat i (Form.Name path d) = AllByRecursion (UsesInstance flat i) path × UsesDefinition flat i d
UsesEarlier flat i (Form.Lambda d) = UsesDefinition flat i d
UsesEarlier flat i form = Unit {0}

-- what a node is made of lies before it
pub record IsMadeOfEarlier (flat : FlatModule) (i : ℕ) (node : Node) : Type 0 where
  pub parts : AllByRecursion (λ part. part < i) node.parts
  pub uses : UsesEarlier flat i node.form

-- each node is made of earlier ones alone
abbrev pub IsOrdered : FlatModule → Type 0
IsOrdered flat = (i : ℕ) (node : Node) → slice_get flat.nodes i ≡ Some node → IsMadeOfEarlier flat i node

-- what stands in one list stands in the other at the same number
abbrev pub Keeps : {A : Type 0} → List A → List A → Type 0
Keeps {A} xs ys = (i : ℕ) (x : A) → slice_get xs i ≡ Some x → slice_get ys i ≡ Some x

-- definitions are there, and maybe more
pub record Extends (flat more : FlatModule) : Type 0 where
  pub nodes : Keeps flat.nodes more.nodes
  pub definitions : Keeps flat.definitions more.definitions
  pub instances : Keeps flat.instances more.instances
