-- Where names lead in code, one step at a time.
use Rattle.std.specs.Prelude.{ℕ, Bool, List, ◌∷◌, Option, Some, None, if◌then◌else◌}
use Rattle.tla_symbols.specs.declared.level.Kind.TheVariants.{Const, State}
use Rattle.tla_symbols.specs.declared.level.Kind.{Kind}
use Rattle.tla_model.specs.declared.entity.Entity.TheVariants as entity
use Rattle.tla_model.specs.declared.names.Meaning.TheVariants.{BuiltIn, Declared}
use Rattle.tla_model.specs.Tables.{Named, Word, Symbol}
use Rattle.name_context.specs.AsTables.{meant_by}
use Rattle.tree_names.specs.declared.parameter.Name.TheVariants as name
use Rattle.tla_model.specs.Entities.{Entity, Meaning}
use Rattle.tree_names.specs.Parameters.{named_in}
use Rattle.flattened_trees.specs.declared.End.TheVariants as end
use Rattle.flattened_trees.specs.Leads.{FlatFace, Lead, behind_instance, only, through}
use Rattle.flattened_units.specs.Units.{no_face}
use Rattle.module_leads.specs.declared.ways.FoundWay.TheVariants as found
use Rattle.module_leads.specs.declared.ways.Way.TheVariants as way

-- the face with a number, or that of no module
abbrev pub face_at : (ℕ → FlatFace) → Option ℕ → FlatFace
face_at faces None = no_face
face_at faces (Some number) = faces number

-- where a name leads that goes this way
abbrev pub way_lead : (ℕ → FlatFace) → way.the_data → List Named → Lead
way_lead faces (way.To e) names = only e names
way_lead faces (way.Behind j face) names = behind_instance j (face_at faces face) names
way_lead faces (way.Through j face word) names = through j ((face_at faces face).leads (named_in word ∷ names))

-- the kind of a bound name
abbrev pub bound_kind : Bool → Kind
bound_kind state = if state then State else Const

-- the way of an entity of which nothing was said
abbrev pub unsaid_entity : Entity → way.the_data
unsaid_entity (entity.Bound state) = way.To (end.Leaf (bound_kind state))
unsaid_entity _ = way.To end.Nowhere

-- the way of a meaning of which nothing was said: bound names and what is built in are leaves
abbrev pub unsaid_way : Meaning → way.the_data
unsaid_way BuiltIn = way.To (end.Leaf Const)
unsaid_way (Declared e callee) = unsaid_entity e

-- a name of the definitions, as one that is held
abbrev pub name_as : Named → name.the_data
name_as (Word bytes) = name.Word bytes
name_as (Symbol op) = name.Symbol op

-- a way as it is found, as one that is kept
abbrev pub found_way : found.the_data → way.the_data
found_way (found.Put way) = way.now
found_way (found.To e) = way.To e
found_way (found.Through j face word) = way.Through j face (name_as (meant_by word))
