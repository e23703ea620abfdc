-- Where meanings lead by what is said of them in a module, and in the modules round it.
use Rattle.indexmap.specs.IndexMap.{IndexMap, get, get_by}
use Rattle.std.specs.Prelude.{◌≡◌, ℕ, zero, suc, ◌<◌, List, [], ◌∷◌, Option, Some, None, IfSome, if◌then◌else◌, length, option_map, slice_get, unwrap_or}
use Rattle.std.specs.Option.{option_or}
use Rattle.tla_model.specs.Entities.{Meaning}
use Rattle.tree_kinds.specs.Standing.{same_standing}
use Rattle.module_model.specs.Exports.{Exports, exports_of, instantiable}
use Rattle.flat_trees.specs.Layouts.{order_of}
use Rattle.flat_kinds.specs.Symbols.{same_symbol}
use Rattle.flattened_trees.specs.declared.End.TheVariants as end
use Rattle.flattened_trees.specs.Leads.{FlatFace, Leads}
use Rattle.module_leads.specs.declared.keys.MeaningKey.{MeaningKey}
use Rattle.module_leads.specs.declared.keys.SymbolKey.{SymbolKey}
use Rattle.module_leads.specs.declared.layer.Brought.{Brought}
use Rattle.module_leads.specs.declared.layer.Layer.{Layer}
use Rattle.module_leads.specs.declared.ways.Way.TheVariants as way
use Rattle.module_leads.specs.Keys.{same_key, symbol_key}
use Rattle.module_leads.specs.Ways.{name_as, unsaid_way, way_lead}

-- ---- symbols

-- the end of a symbol at a place
abbrev pub place_end : ℕ → Option ℕ → end.the_data
place_end place None = end.Place place 0
place_end place (Some arity) = end.Place place arity

-- where these symbols end, at places from this one on
abbrev pub symbol_among : List Meaning → ℕ → Meaning → Option end.the_data
symbol_among [] place other = None
symbol_among (meaning ∷ rest) place other = if same_symbol other meaning then Some (end.Place place (order_of meaning)) else symbol_among rest (suc place) other

-- where the symbol of a key ends, if there is one
abbrev pub keyed_end : {S : Type 0} → IndexMap SymbolKey end.the_data S → Option SymbolKey → Option end.the_data
keyed_end symbols None = None
keyed_end symbols (Some key) = get same_key symbols key

-- where a symbol ends
abbrev pub symbol_end : {S : Type 0} → IndexMap SymbolKey end.the_data S → Meaning → Option end.the_data
symbol_end symbols meaning = keyed_end symbols (symbol_key meaning)

-- the ends of symbols, with one more
abbrev pub AddsSymbol : {S : Type 0} → IndexMap SymbolKey end.the_data S → IndexMap SymbolKey end.the_data S → Meaning → ℕ → Type 0
AddsSymbol old new meaning place =
    (other : Meaning) → symbol_end new other ≡ (if same_symbol other meaning then Some (end.Place place (order_of meaning)) else symbol_end old other)

-- ---- ways

-- the ways of what has these names in a module, through an instance of it: the first that means something counts
abbrev pub brought_way : Exports → ℕ → Option ℕ → Meaning → Option way.the_data
brought_way [] j face other = None
brought_way (entry ∷ rest) j face other = if same_standing other entry.1 then Some (way.Through j face (name_as entry.0)) else brought_way rest j face other

-- the way of what a module brings that is extended
abbrev pub brought_by : Brought → Meaning → Option way.the_data
brought_by brought meaning = brought_way (instantiable (exports_of brought.exports)) brought.instance brought.face meaning

-- the same of several modules: the last that has something counts
abbrev pub last_brought : List Brought → Meaning → Option way.the_data
last_brought [] meaning = None
last_brought (brought ∷ rest) meaning = option_or (last_brought rest meaning) (brought_by brought meaning)

-- the way of what was put
abbrev pub put_way : {S : Type 0} → IndexMap MeaningKey way.the_data S → Meaning → Option way.the_data
put_way others meaning = get_by (λ (key : MeaningKey). same_standing meaning key.meaning) others

-- the way of what is defined or brought
abbrev pub own_way : Layer → Meaning → Option way.the_data
own_way layer meaning = option_or (put_way layer.others meaning) (last_brought layer.brought.items meaning)

-- the way of what is said of a meaning: what is defined or brought, or else a symbol
abbrev pub said_way : Layer → Meaning → Option way.the_data
said_way layer meaning = option_or (own_way layer meaning) (option_map (λ e. way.To e) (symbol_end layer.symbols meaning))

-- the same over what is said round it
abbrev pub layer_way : Layer → way.the_data → Meaning → way.the_data
layer_way layer below meaning = unwrap_or (said_way layer meaning) below

-- the same of a layer that may be there
abbrev pub listed_way : Option Layer → way.the_data → Meaning → way.the_data
listed_way None below meaning = below
listed_way (Some layer) below meaning = layer_way layer below meaning

-- the way of a meaning by the first so many layers, each over those before it
abbrev pub first_ways : List Layer → ℕ → Meaning → way.the_data
first_ways layers zero meaning = unsaid_way meaning
first_ways layers (suc count) meaning = listed_way (slice_get layers count) (first_ways layers count meaning) meaning

-- where meanings lead that go these ways
abbrev pub leads_by : (ℕ → FlatFace) → (Meaning → way.the_data) → Leads
leads_by faces ways meaning names = way_lead faces (ways meaning) names

-- where they lead by the first so many layers, by fewer and fewer of them
abbrev pub round_by : (ℕ → FlatFace) → List Layer → ℕ → List Leads
round_by faces layers zero = []
round_by faces layers (suc count) = leads_by faces (first_ways layers (suc count)) ∷ round_by faces layers count

-- nothing is said
pub record IsSilent (layer : Layer) : Type 0 where
  pub symbols : layer.symbols.entries ≡ []
  pub others : layer.others.entries ≡ []
  pub brought : layer.brought.items ≡ []

-- these symbols are all that is said, at places from this one on
pub record HasSymbols (layer : Layer) (own : List Meaning) (place : ℕ) : Type 0 where
  pub symbols : (other : Meaning) → symbol_end layer.symbols other ≡ symbol_among own place other
  pub others : layer.others.entries ≡ []
  pub brought : layer.brought.items ≡ []

-- something is put that goes this way
pub record IsPut (old new : Layer) (meaning : Meaning) (way : way.the_data) : Type 0 where
  pub symbols : new.symbols ≡ old.symbols
  pub ways : (other : Meaning) → own_way new other ≡ (if same_standing other meaning then Some way else own_way old other)

-- entries of a module are brought, through an instance of it
pub record IsBrought (old new : Layer) (entries : Exports) (j : ℕ) (face : Option ℕ) : Type 0 where
  pub symbols : new.symbols ≡ old.symbols
  pub ways : (other : Meaning) → own_way new other ≡ option_or (brought_way entries j face other) (own_way old other)

-- ways, with the same one for each of these
abbrev pub put_ways : List Meaning → way.the_data → (Meaning → Option way.the_data) → Meaning → Option way.the_data
put_ways [] way ways = ways
put_ways (meaning ∷ rest) way ways = put_ways rest way (λ other. if same_standing other meaning then Some way else ways other)

-- these are put, which all go the same way
pub record ArePut (old new : Layer) (meanings : List Meaning) (way : way.the_data) : Type 0 where
  pub symbols : new.symbols ≡ old.symbols
  pub ways : (other : Meaning) → own_way new other ≡ put_ways meanings way (own_way old) other

-- the way of a meaning by what is said of it here, and round this
abbrev pub way_by : List Layer → Layer → Meaning → way.the_data
way_by round here meaning = layer_way here (first_ways round (length round) meaning) meaning

-- ---- what is there

-- a face with so many before it, or none
abbrev pub IsFaceWithin : ℕ → Option ℕ → Type 0
IsFaceWithin count None = Unit {0}
IsFaceWithin count (Some number) = number < count

-- a way behind such a face
abbrev pub IsWayWithin : ℕ → way.the_data → Type 0
IsWayWithin count (way.To e) = Unit {0}
IsWayWithin count (way.Behind j face) = IsFaceWithin count face
IsWayWithin count (way.Through j face name) = IsFaceWithin count face

-- all ways of a layer are
abbrev pub IsLayerWithin : ℕ → Layer → Type 0
IsLayerWithin count layer = (meaning : Meaning) → IfSome (own_way layer meaning) (IsWayWithin count)
