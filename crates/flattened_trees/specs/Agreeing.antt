-- When what is known of names round a tree agrees with what they stand for, what they take, and what is declared so far.
use Rattle.std.specs.Prelude.{◌≡◌, Bool, true, false, List, [], ◌∷◌, Some, if◌then◌else◌, length, map, replicate}
use Rattle.tla_symbols.specs.declared.level.Kind.TheVariants.{Const, State}
use Rattle.tla_tree.specs.Syntax.{Tree}
use Rattle.tla_model.specs.declared.entity.Entity.TheVariants as entity
use Rattle.tla_model.specs.declared.names.Meaning.TheVariants.{BuiltIn, Declared}
use Rattle.tla_model.specs.Tables.{Named}
use Rattle.tla_model.specs.Entities.{Meaning, Text, meant, same_meaning, within}
use Rattle.tla_model.specs.Contexts.{meaning_of}
use Rattle.module_model.specs.Exports.{Behind, Known, behind_meaning, entry_of, onward}
use Rattle.flat_trees.specs.Stands.{Stand, Unsaid, Leaf, Place, Defined, Through, Brought}
use Rattle.flat_trees.specs.Layouts.{Layout, order_of}
use Rattle.flattened_trees.specs.declared.End.TheVariants as end
use Rattle.flattened_trees.specs.Leads.{Lead, Setting, nowhere, only, through}
use Rattle.flattened_trees.specs.Readable.{IsInstanceOf, IsNoInstance, orders_of}

-- where a name leads by what it stands for
abbrev pub lead_by : Stand → List Named → Lead
lead_by Unsaid names = nowhere
lead_by (Leaf kind) names = only (end.Leaf kind) names
lead_by (Place place order) names = only (end.Place place order) names
lead_by (Defined d orders) names = only (end.Definition d) names
lead_by (Through j orders inner) [] = nowhere
lead_by (Through j orders inner) (name ∷ names) = through j (lead_by (inner name) names)
lead_by (Brought j inner) names = through j (lead_by inner names)

-- what is known of names leads where they stand
pub record IsSettingOf (layout : Layout) (setting : Setting) : Type 0 where
  pub leads : (meaning : Meaning) (names : List Named) → setting.leads meaning names ≡ lead_by (layout.stands meaning) names
  pub places : layout.places ≡ length setting.frame
  pub olds : layout.olds ≡ setting.olds

-- ---- what names take

-- a name of this meaning, behind which this stands, stands for a definition or an instance that takes what it takes
abbrev pub TakesBehind : Stand → Behind → Meaning → Type 0
TakesBehind (Defined d orders) held meaning = IsNoInstance meaning × (orders ≡ orders_of meaning)
TakesBehind (Through j orders inner) held meaning =
    IsInstanceOf meaning orders × ((name : Named) (next : Meaning) → entry_of (held []) name ≡ Some next → TakesBehind (inner name) (onward held name) next)
TakesBehind (Brought j inner) held meaning = TakesBehind inner held meaning
TakesBehind stand held meaning = ⊥

-- the same of any name: it may be a leaf, or a symbol or parameter of its order, which takes expressions
abbrev pub TakesAs : Stand → Behind → Meaning → Type 0
TakesAs (Leaf kind) held meaning = IsNoInstance meaning × (orders_of meaning ≡ [])
TakesAs (Place place order) held meaning = IsNoInstance meaning × (order ≡ order_of meaning) × (orders_of meaning ≡ replicate order 0)
TakesAs stand held meaning = TakesBehind stand held meaning

-- all names that can be used stand for what takes what they take
abbrev pub KeepsOrders : Known → Layout → Type 0
KeepsOrders known layout =
    (name : Named) (meaning : Meaning) → meaning_of layout.context name ≡ Some meaning → TakesAs (layout.stands meaning) (behind_meaning known (Some meaning)) meaning

-- ---- what is declared so far

-- what stands for a name of which nothing was said
abbrev pub unsaid_stand : Meaning → Stand
unsaid_stand BuiltIn = Leaf Const
unsaid_stand (Declared (entity.Bound state) callee) = Leaf (if state then State else Const)
unsaid_stand meaning = Unsaid

-- one of these means the same
abbrev pub is_seen : List Meaning → Meaning → Bool
is_seen [] meaning = false
is_seen (first ∷ rest) meaning = if same_meaning meaning first then true else is_seen rest meaning

-- none of these means the same as one that was seen, or as one before it
abbrev pub AreNew : List Meaning → List Meaning → Type 0
AreNew seen [] = Unit {0}
AreNew seen (meaning ∷ rest) = (is_seen seen meaning ≡ false) × AreNew (meaning ∷ seen) rest

-- the names that a tree declares and binds are new
abbrev pub IsFresh : Text → List Meaning → Tree → Type 0
IsFresh text seen x = AreNew seen (map (meant text) (within x))

-- names that can be used were seen
abbrev pub IsSeen : List Meaning → Layout → Type 0
IsSeen seen layout = (name : Named) (meaning : Meaning) → meaning_of layout.context name ≡ Some meaning → is_seen seen meaning ≡ true

-- nothing is said of the names that a tree declares and binds
abbrev pub IsUnsaid : Text → Layout → Tree → Type 0
IsUnsaid text layout x = (meaning : Meaning) → is_seen (map (meant text) (within x)) meaning ≡ true → layout.stands meaning ≡ unsaid_stand meaning
