-- What the faces of a table are to their instances.
use Rattle.indexmap.specs.IndexMap.{get_by_text}
use Rattle.std.specs.Prelude.{◌≡◌, ℕ, zero, suc, ◌<◌, List, [], ◌∷◌, Option, Some, None, if◌then◌else◌, length, nat_eq, option_map, slice_get}
use Rattle.tla_model.specs.Tables.{Named, Word, Symbol, find, lookup, same_symbol}
use Rattle.std.specs.Option.{option_or}
use Rattle.tla_model.specs.Entities.{Meaning}
use Rattle.module_model.specs.Exports.{Exports, entry_of}
use Rattle.tree_names.specs.Parameters.{entries_in}
use Rattle.flattened_trees.specs.Leads.{FlatFace, Lead, nowhere}
use Rattle.flattened_units.specs.Units.{no_face}
use Rattle.module_leads.specs.declared.faces.FaceNames.TheVariants as names
use Rattle.module_leads.specs.declared.faces.ListedNames.{ListedNames}
use Rattle.module_leads.specs.declared.faces.ModuleFace.{ModuleFace}
use Rattle.module_leads.specs.declared.faces.TableNames.{TableNames}
use Rattle.module_leads.specs.declared.ways.Way.TheVariants as way
use Rattle.module_leads.specs.Layers.{layer_way}
use Rattle.module_leads.specs.Ways.{face_at, unsaid_way, way_lead}

-- ---- faces

-- the way of a name among those that are listed
abbrev pub way_among : ListedNames → Named → Option way.the_data
way_among names (Word bytes) = get_by_text names.words bytes
way_among names (Symbol op) = lookup same_symbol names.symbols.items op

-- the way of a name of a table, by what is said of its meaning in the module
abbrev pub table_way : TableNames → Named → Option way.the_data
table_way names name = option_map (λ meaning. layer_way names.layer (unsaid_way meaning) meaning) (find names.exports name)

-- the way of a name among these
abbrev pub named_way : names.the_data → Named → Option way.the_data
named_way (names.Listed listed) name = way_among listed name
named_way (names.Table table) name = table_way table name

-- the way of a name that a module has
abbrev pub way_of : ModuleFace → Named → Option way.the_data
way_of face name = named_way face.names name

-- where a name leads whose way may be there
abbrev pub found_lead : (ℕ → FlatFace) → Option way.the_data → List Named → Lead
found_lead faces None names = nowhere
found_lead faces (Some way) names = way_lead faces way names

-- where paths lead over the names of a module
abbrev pub face_leads : (ℕ → FlatFace) → ModuleFace → List Named → Lead
face_leads faces face [] = nowhere
face_leads faces face (name ∷ names) = found_lead faces (way_of face name) names

-- what a module is to its instances, by what others are
abbrev pub flat_face : (ℕ → FlatFace) → ModuleFace → FlatFace
flat_face faces face = record { parameters = entries_in face.parameters; outer = face.outer; leads = face_leads faces face; is_constant = face.is_constant }

-- the same of a face that may be there
abbrev pub listed_face : (ℕ → FlatFace) → Option ModuleFace → FlatFace
listed_face faces None = no_face
listed_face faces (Some face) = flat_face faces face

-- what the first so many modules of a table are, each by those before it
abbrev pub first_faces : List ModuleFace → ℕ → ℕ → FlatFace
first_faces listed zero number = no_face
first_faces listed (suc count) number = if nat_eq number count then listed_face (first_faces listed count) (slice_get listed count) else first_faces listed count number

-- what all are
abbrev pub faces_of : List ModuleFace → ℕ → FlatFace
faces_of listed = first_faces listed (length listed)

-- the ways of entries by what goes for their meanings, behind those that are listed
abbrev pub HasWays : ListedNames → ListedNames → (Meaning → way.the_data) → Exports → Type 0
HasWays old new ways entries = (name : Named) → way_among new name ≡ option_or (way_among old name) (option_map ways (entry_of entries name))

-- a face among the first so many
pub record IsFaceBefore (listed : List ModuleFace) (limit : ℕ) (face : Option ℕ) (number : ℕ) (found : ModuleFace) : Type 0 where
  pub before : number < limit
  pub numbered : face ≡ Some number
  pub is : face_at (first_faces listed limit) face ≡ flat_face (first_faces listed number) found
