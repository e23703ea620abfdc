-- Where paths lead through instances, as it is kept: by the faces of imported modules, and by what is noted of nested ones.
use Rattle.std.specs.Prelude.{◌≡◌, ◌<◌, ⊤, ℕ, List, [], ◌∷◌, Option, None, Some, if◌then◌else◌, map, slice_get}
use Rattle.tla_model.specs.declared.ids.DeclId.{DeclId}
use Rattle.tla_model.specs.declared.names.Meaning.TheVariants.{BuiltIn, Declared}
use Rattle.tla_model.specs.Entities.{Meaning, same_decl}
use Rattle.tla_model.specs.EntityKinds.{is_instance}
use Rattle.tla_model.specs.Tables.{Table, lookup}
use Rattle.module_scope.specs.Environments.{Environment, meaning}
use Rattle.module_model.specs.Exports.{Behind, Exports, Known, ModuleView, behind_along, entry_of, exports_of, face_exports, face_instances, instantiable, parameters_in}
use Rattle.module_model.specs.Given.{imported}
use Rattle.module_model.specs.Imports.{Imports}
use Rattle.module_model.specs.declared.face.Face.{Face}
use Rattle.tree_tasks.specs.declared.held.Held.{Held}
use Rattle.tree_tasks.specs.declared.held.Held.TheVariants.{Nowhere, Imported, Reached, Nested}
use Rattle.instance_leads.specs.declared.ended.Ended.{Ended}

-- where instances lead, by their declarations
abbrev pub Leads : Type 0
Leads = List (DeclId × Held)

-- what is found, and nowhere where nothing is
abbrev pub or_nowhere : Option Held → Held
or_nowhere None = Nowhere
or_nowhere (Some held) = held

-- where a name leads that means this; what is no instance leads nowhere
abbrev pub leads_on : Leads → Option Meaning → Held
leads_on leads None = Nowhere
leads_on leads (Some BuiltIn) = Nowhere
leads_on leads (Some (Declared entity callee)) = if is_instance entity then or_nowhere (lookup same_decl leads callee.decl) else Nowhere

-- what a nested module exports that has ended
abbrev pub exports_shown : Option Ended → Exports
exports_shown None = []
exports_shown (Some ended) = exports_of ended.exports

-- its parameters: constants and variables that it declares or extends, and that the context round it does not hold
abbrev pub parameters_shown : Option Ended → Exports
parameters_shown None = []
parameters_shown (Some ended) = parameters_in (exports_of ended.parameters)

-- where its instances lead
abbrev pub leads_shown : Option Ended → Leads
leads_shown None = []
leads_shown (Some ended) = ended.instances

module _ (nested : List Ended) where
  -- what stands at a path behind a place to which instances lead
  abbrev pub behind_at : Held → Behind
  behind_at Nowhere path = []
  behind_at (Imported face) path = behind_along (face_instances face.now) (face_exports face.now) path
  behind_at (Reached face exports) path = behind_along (face_instances face.now) (exports_of exports.now) path
  behind_at (Nested number) [] = instantiable (exports_shown (slice_get nested number))
  behind_at (Nested number) (name ∷ path) =
      behind_at (leads_on (leads_shown (slice_get nested number)) (entry_of (exports_shown (slice_get nested number)) name)) path

  -- the entries at each path from what a nested module exports
  abbrev pub entries_of : Option Ended → Behind
  entries_of ended [] = exports_shown ended
  entries_of ended (name ∷ path) = behind_at (leads_on (leads_shown ended) (entry_of (exports_shown ended) name)) path

  -- what a nested module of this number is to those that name it
  abbrev pub view_at : ℕ → ModuleView
  view_at number = record { entries = entries_of (slice_get nested number); parameters = parameters_shown (slice_get nested number) }

  -- what stands behind a place, if there is one
  abbrev pub behind_found : Option Held → Option Behind
  behind_found None = None
  behind_found (Some held) = Some (behind_at held)

  -- what stands behind instances, by where they lead
  abbrev pub known_in : Leads → Known
  known_in leads decl = behind_found (lookup same_decl leads decl)

  -- what a nested module is, by its number
  abbrev pub view_of : Option ℕ → Option ModuleView
  view_of None = None
  view_of (Some number) = Some (view_at number)

  -- the modules that can be named, by the numbers of nested ones
  abbrev pub views : Environment ℕ → Environment ModuleView
  views modules = map (λ entry. (entry.0, view_of entry.1)) modules

-- ---- what is kept goes together

-- the face is that of an import
pub record IsOfImport (imports : Imports) (face : Face) : Type 0 where
  pub name : List ℕ
  pub is : imported imports name ≡ Some face

-- the table is that of the module of an instance that the face of an import reaches
pub record IsStanding (imports : Imports) (face : Face) (table : Table Meaning) : Type 0 where
  pub import : IsOfImport imports face
  pub decl : DeclId
  pub stands : face_instances face decl ≡ Some (exports_of table)

-- a place is that of an imported module, of an instance that one reaches, or of a nested module which is there
abbrev pub IsThere : Imports → ℕ → Held → Type 0
IsThere imports count Nowhere = ⊤
IsThere imports count (Imported face) = IsOfImport imports face.now
IsThere imports count (Reached face exports) = IsStanding imports face.now exports.now
IsThere imports count (Nested number) = number < count

-- all places to which instances lead are there
abbrev pub AreThere : Imports → ℕ → Leads → Type 0
AreThere imports count leads = (decl : DeclId) (held : Held) → lookup same_decl leads decl ≡ Some held → IsThere imports count held

-- the module names that are taken stand for nested modules that are there
abbrev pub AreNumbered : ℕ → Environment ℕ → Type 0
AreNumbered count modules = (name : List ℕ) (number : ℕ) → meaning modules name ≡ Some (Some number) → number < count

-- an instance that a nested module exports is known, and leads where it does there
abbrev pub IsNoted : Leads → Ended → Type 0
IsNoted known ended = (decl : DeclId) (held : Held) → lookup same_decl ended.instances decl ≡ Some held → lookup same_decl known decl ≡ Some held
