-- What arguments mean, and what is said of tables of them.
use Rattle.std.specs.Global.{Global}
use Rattle.std.specs.Prelude.{Vec, ◌≡◌, ℕ, ◌-◌, ◌<◌, ◌≤◌, List, [], ◌∷◌, ◌++◌, Option, Some, None, length, map, slice_get, slice_index_or}
use Rattle.std.specs.List.{AllByRecursion}
use Rattle.tla_symbols.specs.declared.level.Kind.{Kind}
use Rattle.tla_symbols.specs.declared.level.Kind.TheVariants.{Const}
use Rattle.tla_symbols.specs.declared.level.Rule.{Rule}
use Rattle.tla_symbols.specs.declared.level.Rule.TheVariants.{Plain, Boolean}
use Rattle.order_rec.specs.Earlier.{along}
use Rattle.kind_text.specs.ExpandedKind.{Given, Ruled, ruled}
use Rattle.kind_text.specs.Substitution.{Item, expression, expressions, leaves, operator}
use Rattle.kind_text.specs.FlatModule.{FlatModule}
use Rattle.kind_text.specs.Expansion.{text_of}
use Rattle.kind_table.specs.declared.argument.Arg.{Arg}
use Rattle.kind_table.specs.Weights.{load}
use Rattle.kind_table.specs.declared.argument.Arg.TheVariants.{Value, Stays, BuiltIn, Operator}

-- ---- what arguments mean

-- a symbol or a parameter that stays: a constant, and an operator by a rule
abbrev pub staying : Rule → Item
staying rule = record { text = Given (Some Const); call = Ruled rule }

-- an argument as an item, by those of the entries before it
abbrev pub arg_item : FlatModule → (ℕ → Item) → Option Arg → Item
arg_item flat f None = expression (Given None)
arg_item flat f (Some (Value k)) = expression (Given k)
arg_item flat f (Some (Stays rule)) = staying rule
arg_item flat f (Some (BuiltIn rule)) = operator (Ruled rule)
arg_item flat f (Some (Operator d ns)) = operator (λ ts. text_of flat d (map f ns.items ++ expressions ts))

-- what an entry stands for
abbrev pub meaning : FlatModule → List Arg → ℕ → Item
meaning flat table = along (expression (Given None)) (λ i f. arg_item flat f (slice_get table i))

-- what entries stand for
abbrev pub meanings : FlatModule → List Arg → List ℕ → List Item
meanings flat table = map (meaning flat table)

-- the kind of an argument that is an expression
abbrev pub value_of : Option Arg → Option Kind
value_of None = None
value_of (Some (Value k)) = k
value_of (Some (Stays rule)) = Some Const
value_of (Some (BuiltIn rule)) = None
value_of (Some (Operator d ns)) = None

-- the kind of an entry that is an expression
abbrev pub value_at : List Arg → ℕ → Option Kind
value_at table n = value_of (slice_get table n)

-- ---- tables

-- an argument of earlier entries
abbrev pub IsArg : ℕ → Arg → Type 0
IsArg i (Operator d ns) = AllByRecursion (λ n. n < i) ns.items
IsArg i arg = Unit {0}

-- each entry is made of earlier ones
pub record IsTable (table : List Arg) : Type 0 where
  pub each : (i : ℕ) (arg : Arg) → slice_get table i ≡ Some arg → IsArg i arg

-- a table, and maybe more entries
pub record Grows (old new : List Arg) : Type 0 where
  pub more : List Arg
  pub extends : new ≡ old ++ more
  pub table : IsTable new

-- the entries of these numbers are there
abbrev pub AllWithin : List Arg → List ℕ → Type 0
AllWithin table = AllByRecursion (λ n. n < length table)

-- an argument stands there, or one that is equal to it
abbrev pub IsStored : List Arg → ℕ → Arg → Type 0
IsStored table n (Operator d ns) = (ms : Vec ℕ Global) × (slice_get table n ≡ Some (Operator d ms)) × (ms.items ≡ ns.items)
IsStored table n arg = slice_get table n ≡ Some arg

-- what is added to a table is such
abbrev pub AddsOnly : (Arg → Type 0) → List Arg → List Arg → Type 0
AddsOnly P old new = (i : ℕ) (arg : Arg) → length old ≤ i → slice_get new i ≡ Some arg → P arg

-- an argument that is an expression
abbrev pub IsValue : Arg → Type 0
IsValue (Value k) = Unit {0}
IsValue arg = ⊥

-- expressions of these kinds come behind what stands in a frame
pub record AddsValues (old new : List Arg) (frame longer : List ℕ) (kinds : List (Option Kind)) : Type 0 where
  pub grows : Grows old new
  pub within : AllWithin new longer
  pub meant : (flat : FlatModule) → meanings flat new longer ≡ meanings flat old frame ++ expressions (leaves kinds)
  pub light : (flat : FlatModule) → load flat new longer ≡ load flat old frame

-- the number of a node, where the first one is of the node start
abbrev pub picked : ℕ → List ℕ → ℕ → ℕ
picked start found node = slice_index_or found (node - start) 0

-- the kind of a quantifier over sets, by those of its body and of the sets
abbrev pub bounded_kind : List (Option Kind) → Option Kind
bounded_kind [] = None
bounded_kind (inner ∷ sets) = ruled Boolean (inner ∷ ruled Plain sets ∷ [])
