-- What names stand for: what they give on arguments, and what stands behind instances.
use Rattle.std.specs.Prelude.{ℕ, Bool, true, false, not, ◌&&◌, List, [], ◌∷◌, ◌++◌, Option, Some, None, if◌then◌else◌, length, nat_eq}
use Rattle.tla_symbols.specs.declared.level.Kind.TheVariants.{Const, State}
use Rattle.tla_symbols.specs.declared.level.Rule.TheVariants.{Plain, Boolean}
use Rattle.tla_model.specs.declared.entity.Entity.TheVariants as entity
use Rattle.tla_model.specs.declared.names.Meaning.TheVariants.{BuiltIn, Declared}
use Rattle.tla_model.specs.Tables.{Named}
use Rattle.tla_model.specs.Entities.{Entity, Meaning, same_meaning}
use Rattle.module_model.specs.Exports.{Exports, ModuleView, entry_of}
use Rattle.kind_text.specs.ExpandedKind.{Expanded, Given, Ruled}
use Rattle.kind_text.specs.Substitution.{Item, expression, operator, expressions, texts}

-- ---- names with arguments

-- a name of a path, with its arguments
pub record Step : Type 0 where
  pub name : Named
  pub arguments : List Item

-- a path of names: the last one is a definition or a symbol, those before it are instances
abbrev pub Steps : Type 0
Steps = List Step

-- a name with arguments, and no further ones
abbrev pub single : Named → List Item → Steps
single name arguments = record { name = name; arguments = arguments } ∷ []

-- further arguments of the last name
abbrev pub applied_to : Steps → List Item → Steps
applied_to [] more = []
applied_to (step ∷ []) more = single step.name (step.arguments ++ more)
applied_to (step ∷ (next ∷ path)) more = step ∷ applied_to (next ∷ path) more

-- ---- what a name stands for

-- what a name gives on its arguments, at the names that follow it on a path; without these it gives an expression itself
abbrev pub Value : Type 0
Value = List Item → Steps → Expanded

-- what stands for each thing that a name can mean
abbrev pub Environment : Type 0
Environment = Meaning → Value

-- what an item gives
abbrev pub value_of : Item → Value
value_of x [] path = x.text
value_of x (first ∷ rest) path = x.call (texts (first ∷ rest))

-- a symbol, a parameter or a bound name by itself; of a definition or an instance, nothing
abbrev pub itself : Entity → Item
itself (entity.Constant places) = record { text = Given (Some Const); call = Ruled Plain }
itself entity.Variable = expression (Given (Some State))
itself (entity.Parameter places) = record { text = Given (Some Const); call = Ruled Boolean }
itself (entity.Bound state) = expression (Given (Some (if state then State else Const)))
itself _ = expression (Given None)

-- each stands for itself, and so does what is built in
abbrev pub themselves : Environment
themselves BuiltIn = value_of (expression (Given (Some Const)))
themselves (Declared e callee) = value_of (itself e)

-- what stands for a name that may mean nothing
abbrev pub value_in : Environment → Option Meaning → Value
value_in standing None arguments path = Given None
value_in standing (Some meaning) arguments path = standing meaning arguments path

-- a name that a quantifier, a function or a set binds
abbrev pub is_bound : Meaning → Bool
is_bound (Declared (entity.Bound state) callee) = true
is_bound meaning = false

-- both mean the same, and both are bound names or neither: what stands for a definition never stands for a bound name
abbrev pub same_standing : Meaning → Meaning → Bool
same_standing a b = same_meaning a b && (if is_bound a then is_bound b else not (is_bound b))

-- one thing more
abbrev pub with_value : Environment → Meaning → Value → Environment
with_value standing meaning value other = if same_standing other meaning then value else standing other

-- the same value for each of these
abbrev pub with_values : Environment → List Meaning → Value → Environment
with_values standing [] value = standing
with_values standing (meaning ∷ rest) value = with_values (with_value standing meaning value) rest value

-- items for parameters, in their order
abbrev pub with_items : Environment → List Meaning → List Item → Environment
with_items standing (meaning ∷ meanings) (x ∷ items) = with_items (with_value standing meaning (value_of x)) meanings items
with_items standing _ _ = standing

-- ---- bare operators

-- how many arguments an entity takes
abbrev pub places : Entity → ℕ
places (entity.Constant n) = n
places (entity.Definition orders) = length orders
places (entity.Instance orders) = length orders
places (entity.Parameter n) = n
places _ = 0

-- the places of what a name means, if it is an operator
abbrev pub operator_places : Option Meaning → Option ℕ
operator_places (Some (Declared e callee)) = if nat_eq (places e) 0 then None else Some (places e)
operator_places _ = None

-- a bare operator with so many places, or else an expression, by what it gives on further arguments
abbrev pub item_of : Option ℕ → (List Item → Expanded) → Item
item_of None gives = expression (gives [])
item_of (Some places) gives = operator (λ ts. gives (expressions ts))

-- ---- modules

-- the depth of what a path leads to, and the greatest depth of replacements on it
pub record Reached : Type 0 where
  pub depth : ℕ
  pub replaced : ℕ

-- what a module is to those that name it: its names; what stands at paths from its exports, by what stands for its
-- parameters; how deep what stands there is; and whether the module is constant
pub record Outside : Type 0 where
  pub view : ModuleView
  pub standing : Environment → Steps → Expanded
  pub depths : List Named → Reached
  pub is_constant : Bool

-- what stands at a path from entries, by what stands for these
abbrev pub along_entries : Environment → Exports → Steps → Expanded
along_entries standing entries [] = Given None
along_entries standing entries (step ∷ path) = value_in standing (entry_of entries step.name) step.arguments path

-- the name of the first of these entries that means this
abbrev pub name_among : Exports → Meaning → Option Named
name_among [] meaning = None
name_among (entry ∷ rest) meaning = if same_standing meaning entry.1 then Some entry.0 else name_among rest meaning

-- what comes from a module under this name there, or else this
abbrev pub coming : (Steps → Expanded) → Value → Option Named → Value
coming from value None arguments path = value arguments path
coming from value (Some name) arguments path = from (record { name = name; arguments = arguments } ∷ path)

-- with the entries of a module, by what stands at paths from these
abbrev pub with_entries : Environment → Exports → (Steps → Expanded) → Environment
with_entries standing entries from meaning = coming from (standing meaning) (name_among entries meaning)
