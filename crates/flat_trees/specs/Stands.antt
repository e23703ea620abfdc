-- What names stand for in a flat module, and when that is what an environment has for them.
use Rattle.std.specs.Prelude.{◌≡◌, ℕ, zero, suc, ◌<◌, ◌≤◌, List, [], ◌∷◌, ◌++◌, Some, length, slice_get, take}
use Rattle.tla_symbols.specs.declared.level.Kind.{Kind}
use Rattle.tla_model.specs.Tables.{Named}
use Rattle.tla_model.specs.Entities.{Meaning}
use Rattle.kind_text.specs.ExpandedKind.{Expanded, Operands, Given}
use Rattle.kind_text.specs.FlatModule.{Definition, FlatModule, Instance}
use Rattle.kind_text.specs.Expansion.{Guard, Reached, behind, guard, text}
use Rattle.kind_text.specs.Substitution.{Item, at, texts}
use Rattle.tree_kinds.specs.Standing.{Environment, Value}

-- ---- items by their orders: an expression has order zero, and an operator has the number of its places

-- how many operands there are
abbrev pub count : Operands → ℕ
count Operands.Nil = 0
count (Operands.Cons t ts) = suc (count ts)

-- the same expression, or the same operator on so many operands
abbrev pub Matches : ℕ → Item → Item → Type 0
Matches zero a b = a.text ≡ b.text
Matches (suc places) a b = (ts : Operands) → count ts ≡ suc places → a.call ts ≡ b.call ts

-- items for parameters of these orders match others, one by one
abbrev pub Fits : List ℕ → List Item → List Item → Type 0
Fits [] [] [] = Unit {0}
Fits (order ∷ orders) (x ∷ xs) (y ∷ ys) = Matches order x y × Fits orders xs ys
Fits _ _ _ = ⊥

-- ---- what a name stands for

-- what a name stands for in a flat module
pub data Stand : Type 0 where
  -- nothing is said of it
  Unsaid : Stand
  -- a leaf of a kind
  Leaf : (kind : Kind) → Stand
  -- the item at a place of the frame, by its order
  Place : (place order : ℕ) → Stand
  -- a definition by number, by the orders of its parameters
  Defined : (definition : ℕ) (orders : List ℕ) → Stand
  -- an instance by number, by the orders of its parameters, and what each name behind it stands for
  Through : (instance : ℕ) (orders : List ℕ) (inner : Named → Stand) → Stand
  -- what comes through an instance without a name
  Brought : (instance : ℕ) (inner : Stand) → Stand

-- a value is this item of an order, under guards
abbrev pub IsItem : ℕ → Item → List Guard → Value → Type 0
IsItem zero x guards value = value [] [] ≡ guard guards x.text
IsItem (suc places) x guards value = (arguments : List Item) → length arguments ≡ suc places → value arguments [] ≡ guard guards (x.call (texts arguments))

module _ (flat : FlatModule) where
  -- an instance that is there, with so many parameters and at most so many places round it
  abbrev pub IsInstance : ℕ → ℕ → ℕ → Instance → Type 0
  IsInstance j parameters places x = (slice_get flat.instances j ≡ Some x) × (x.parameters ≡ parameters) × (x.outer ≤ places)

  -- behind an instance on arguments, under these guards and its own
  abbrev pub passed : Instance → List Item → List Guard → List Item → Reached
  passed x frame guards arguments = behind flat (text flat) x (take x.outer frame ++ arguments) (record { frame = frame; guards = guards; rest = [] })

  -- a definition on arguments, under guards: its body over what stands round it, and the arguments
  abbrev pub defined_text : Definition → List Item → List Guard → List Item → Expanded
  defined_text x frame guards arguments = guard guards (text flat x.root (take x.outer frame ++ arguments)).text

  -- with this frame, and under these guards, a name stands for what an environment has for it
  abbrev pub IsStanding : List Item → List Guard → Stand → Value → Type 0
  IsStanding frame guards Unsaid value = Unit {0}
  IsStanding frame guards (Leaf kind) value = value [] [] ≡ guard guards (Given (Some kind))
  IsStanding frame guards (Place place order) value = (place < length frame) × IsItem order (at frame place) guards value
  IsStanding frame guards (Defined d orders) value =
      (x : Definition) × (slice_get flat.definitions d ≡ Some x) × (x.outer ≤ length frame)
      × ((made arguments : List Item) → Fits orders made arguments → value arguments [] ≡ defined_text x frame guards made)
  IsStanding frame guards (Through j orders inner) value =
      (x : Instance) × IsInstance j (length orders) (length frame) x
      × ((made arguments : List Item) → Fits orders made arguments → (name : Named)
      → IsStanding (passed x frame guards made).frame (passed x frame guards made).guards (inner name)
      (λ more path. value arguments (record { name = name; arguments = more } ∷ path)))
  IsStanding frame guards (Brought j inner) value =
      (x : Instance) × IsInstance j 0 (length frame) x
      × IsStanding (passed x frame guards []).frame (passed x frame guards []).guards inner value

  -- all that names can mean stands so for what an environment has
  abbrev pub AreStanding : List Item → (Meaning → Stand) → Environment → Type 0
  AreStanding frame stands standing = (meaning : Meaning) → IsStanding frame [] (stands meaning) (standing meaning)
