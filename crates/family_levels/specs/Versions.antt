-- What was found of modules once, and over what: so that it is found again where that is the same.
use Rattle.std.specs.Prelude.{◌≡◌, ◌<◌, ◌⊎◌, ◌↔◌, ℕ, Bool, true, List, [], ◌∷◌, Option, Some, None, Contains, IfSome, IsTrue, if◌then◌else◌}
use Rattle.std.specs.List.{AllByRecursion}
use Rattle.std.specs.Arc.{arc_value}
use Rattle.std.specs.Str.{bytes_eq}
use Rattle.tla_tree.specs.declared.unit.ModuleTree.{ModuleTree}
use Rattle.tla_model.specs.declared.Diagnostic.{Diagnostic}
use Rattle.tla_model.specs.declared.ids.DeclId.{DeclId}
use Rattle.unit_grammar.specs.UnitNodes.{module_of}
use Rattle.unit_grammar.specs.Units.{ModuleUnits}
use Rattle.module_model.specs.declared.face.Face.{Face}
use Rattle.module_model.specs.Exports.{Exports, face_instances, face_outside}
use Rattle.module_model.specs.Given.{IsWhole}
use Rattle.module_facts.specs.Checks.{all_faults as names_faults}
use Rattle.kind_text.specs.FlatModule.{Extends, FlatModule}
use Rattle.tree_kinds.specs.Standing.{Outside}
use Rattle.module_kinds.specs.ModuleKinds.{outside as module_outside}
use Rattle.flat_trees.specs.Instances.{symbols_of}
use Rattle.flat_kinds.specs.Declarations.{Declarations}
use Rattle.flattened_trees.specs.Leads.{FlatFace}
use Rattle.flattened_trees.specs.Questions.{Question}
use Rattle.flattened_units.specs.Units.{Reader}
use Rattle.written_trees.specs.Leading.{face_in}
use Rattle.leveled_modules.specs.Leveled.{LevelTables, file_faces}
use Rattle.alike_modules.specs.Known.{IsKnownFile, IsMadeOver, Knowledge, face_of}
use Rattle.family_facts.specs.Facts.{texts_of}
use Rattle.family_facts.specs.Family.{IsCyclic, Member}
use Rattle.family_tables.specs.Agreement.{accepted_face, found_face}
use Rattle.family_tables.specs.Keeping.{IsRead}
use Rattle.family_tables.specs.Modules.{needs_of}
use Rattle.family_tables.specs.Outcomes.{Matches, faults_of, status_by}
use Rattle.family_tables.specs.Tables.{entry_of}
use Rattle.family_tables.specs.declared.outcome.Outcome.{Outcome}
use Rattle.family_tables.specs.declared.outcome.Outcome.TheVariants as outcome
use Rattle.leveled_facts.specs.Families.{leveled}
use Rattle.leveled_facts.specs.Modules.{Accepted, Cyclic, Leveled, Refused, Status, Unknown, import_status, leveled_by, outside_by}
use Rattle.family_levels.specs.declared.«module».Found.{Found}
use Rattle.family_levels.specs.declared.versions.Need.{Need}
use Rattle.family_levels.specs.declared.versions.Need.TheVariants as need_as
use Rattle.family_levels.specs.declared.versions.Version.{Version}
use Rattle.family_levels.specs.Exactness.{IsExactOutcome}
use Rattle.family_levels.specs.Leveling.{HasNumber, KeepsFaces, face_count, faces_of}

-- what is found is the same
pub record IsCopy (found copy : Found) : Type 0 where
  pub faults : faults_of (Some copy.outcome) ≡ faults_of (Some found.outcome)
  pub face : accepted_face (Some copy.outcome) ≡ accepted_face (Some found.outcome)
  pub number : copy.number ≡ found.number
  pub names : copy.names ≡ found.names

-- there are more nodes and more faces, and the first ones are the same
pub record Grows (old new : LevelTables) : Type 0 where
  pub nodes : Extends old.tables.state.flat new.tables.state.flat
  pub faces : KeepsFaces old new

-- ---- what modules are that another one needs

-- what an accepted module is to others, as far as it is kept: what it exports, and the number of its face
pub record Shown : Type 0 where
  pub face : Face
  pub number : ℕ

-- the same, with what it is to all of a module
pub record Told : Type 0 where
  pub shown : Shown
  pub outside : Outside

-- what is kept of a module that is needed
abbrev pub shown_in : Option Told → Option Shown
shown_in None = None
shown_in (Some told) = Some told.shown

-- a status without a module behind it
abbrev pub IsLack : Status → Type 0
IsLack Unknown = Unit {0}
IsLack Cyclic = Unit {0}
IsLack Refused = Unit {0}
IsLack (Accepted outside) = ⊥

-- what modules are to one that needs them: those that are accepted, and the status of each other one
pub record Over : Type 0 where
  pub told : List ℕ → Option Told
  pub lacks : List ℕ → Status
  pub are_lacks : (name : List ℕ) → IsLack (lacks name)

-- the status of a module that is accepted, or that of another one
abbrev pub status_told : Status → Option Told → Status
status_told lack None = lack
status_told lack (Some told) = Accepted told.outside

-- what modules are to one over these
abbrev pub given_over : Over → List ℕ → Status
given_over over name = status_told (over.lacks name) (over.told name)

-- the same of those that are accepted
abbrev pub outsides_over : Over → List ℕ → Outside
outsides_over over name = outside_by (given_over over name)

-- the number of a module that is needed
abbrev pub number_in : Option Told → Option ℕ
number_in None = None
number_in (Some told) = Some told.shown.number

-- their numbers
abbrev pub numbers_over : Over → List ℕ → Option ℕ
numbers_over over name = number_in (over.told name)

-- their views are those of their faces
abbrev pub AreViewed : Over → Type 0
AreViewed over = (name : List ℕ) (told : Told) → over.told name ≡ Some told → told.outside.view ≡ face_outside told.shown.face

-- this is found of a text over them
abbrev pub leveled_over : Over → ModuleTree → Leveled
leveled_over over tree = leveled_by (given_over over) tree.source (module_of tree)

-- faults of imports, or else of names and arities, by what modules are
abbrev pub named_faults : (List ℕ → Status) → List ℕ → ModuleUnits → List Diagnostic
named_faults given source units = names_faults (λ name. import_status (given name)) source units

-- a module that is needed is told so among modules that were found
pub record IsNeedAccepted (family : List Member) (outcomes : List (List ℕ × Outcome)) (numbers : List (List ℕ × ℕ)) (name need : List ℕ) (over : Over) : Type 0 where
  pub told : Told
  pub is : over.told need ≡ Some told
  pub face : found_face outcomes need ≡ Some told.shown.face
  pub number : entry_of numbers need ≡ Some told.shown.number
  pub outside : (leveled (texts_of family) need).outside ≡ told.outside
  pub apart : IsCyclic family name need → ⊥

-- or it has the status of one that is not accepted
pub record IsNeedLacking (family : List Member) (outcomes : List (List ℕ × Outcome)) (name need : List ℕ) (over : Over) : Type 0 where
  pub is : over.told need ≡ None
  pub cyclic : Bool
  pub exactly : IsTrue cyclic ↔ IsCyclic family name need
  pub status : import_status (over.lacks need) ≡ status_by cyclic (entry_of outcomes need)

-- so are all that are needed, and another one is not there
pub record AreNeedsTold (family : List Member) (outcomes : List (List ℕ × Outcome)) (numbers : List (List ℕ × ℕ)) (name : List ℕ) (needs : List (List ℕ)) (over : Over) : Type 0 where
  pub each : (need : List ℕ) → Contains needs need → IsNeedAccepted family outcomes numbers name need over ⊎ IsNeedLacking family outcomes name need over
  pub others : (other : List ℕ) → (Contains needs other → ⊥) → over.told other ≡ None
  pub unknown : (other : List ℕ) → (Contains needs other → ⊥) → over.lacks other ≡ Unknown

-- what is kept of a module of which this was found, if it is accepted
abbrev pub shown_by : Outcome → Option ℕ → Option Shown
shown_by (outcome.Accepted face) (Some number) = Some (record { face = arc_value face; number = number })
shown_by _ _ = None

-- ---- what is found over them

-- where an instance of a face comes from: the text of its module, or the face of one that the module needs
pub data IsHeld (over : Over) (title : List ℕ) (decl : DeclId) (entries : Exports) : Type 0 where
  Own : bytes_eq decl.«module» title ≡ true → IsHeld over title decl entries
  Shared : (name : List ℕ) (told : Told) → over.told name ≡ Some told → face_instances told.shown.face decl ≡ Some entries → IsHeld over title decl entries

-- the face of a module over these holds what its exports reach, and nothing from elsewhere
pub record IsHeldFace (over : Over) (title : List ℕ) (face : Face) : Type 0 where
  pub named : face.«module» ≡ title
  pub whole : IsWhole face
  pub from : (decl : DeclId) (entries : Exports) → face_instances face decl ≡ Some entries → IsHeld over title decl entries

-- a module without faults of imports, names and arities became nodes over these, which were known then
pub record IsMadeWith (known : LevelTables) (over : Over) (name source : List ℕ) (units : ModuleUnits) : Type 0 where
  pub last : Reader
  pub asked : List Question
  pub below : (other : List ℕ) → IfSome (numbers_over over other) (λ n. n < face_count known)
  pub declares : Declarations
  pub knowledge : Knowledge
  pub made : IsMadeOver declares known.tables.state.flat knowledge (file_faces (faces_of known) (numbers_over over)) (outsides_over over) name source units (symbols_of (module_outside (outsides_over over) source units)) last asked

-- a face that was known of some file leads to the same resolved trees as another one, in all that a flat module becomes
pub record IsFaceLike (flat : FlatModule) (face other : FlatFace) : Type 0 where
  pub declares : Declarations
  pub knowledge : Knowledge
  pub file : Outside
  pub known : IsKnownFile declares flat knowledge face file
  pub alike : (more : FlatModule) → Extends flat more → face_in more face ≡ face_in more other

-- a module was accepted, and this is kept of it: it became nodes, and its face has this number, or is like one that has it
pub record IsAcceptedOver (known : LevelTables) (over : Over) (own : Option Shown) (name : List ℕ) (tree : ModuleTree) (found : Found) (number : ℕ) : Type 0 where
  pub there : number < face_count known
  pub shown : Shown
  pub is : own ≡ Some shown
  pub number_is : shown.number ≡ number
  pub face_is : accepted_face (Some found.outcome) ≡ Some shown.face
  pub held : IsHeldFace over name shown.face
  pub made : IsMadeWith known over name tree.source (module_of tree)
  pub like : IsFaceLike known.tables.state.flat (faces_of known number) (face_of (outsides_over over) tree.source (module_of tree) made.last)

-- this is found of a tree over these, and this is kept of it, if it is accepted
pub record IsFoundOver (known : LevelTables) (over : Over) (own : Option Shown) (name : List ℕ) (tree : ModuleTree) (found : Found) : Type 0 where
  pub read : IsRead name tree
  pub viewed : AreViewed over
  pub says : Matches (leveled_over over tree).faults (leveled_over over tree).outside.view found.outcome
  pub numbered : HasNumber found.outcome found.number
  pub names : found.names ≡ record { uses = (leveled_over over tree).uses; decls = (leveled_over over tree).decls }
  pub made : named_faults (given_over over) tree.source (module_of tree) ≡ [] → IsMadeWith known over name tree.source (module_of tree)
  pub accepted : (number : ℕ) → found.number ≡ Some number → IsAcceptedOver known over own name tree found number

-- ---- versions

-- what a need is, if it is one
abbrev pub need_in : List (List ℕ) → List Need → List ℕ → Option Need
need_in (need ∷ needs) (is ∷ rest) name = if bytes_eq name need then Some is else need_in needs rest name
need_in _ _ name = None

-- what is kept of it, by what is kept under each number
abbrev pub shown_need : (ℕ → Option Shown) → Option Need → Option Shown
shown_need shown (Some (need_as.Version id)) = shown id
shown_need shown _ = None

-- its status, if it is not accepted
abbrev pub lack_need : Option Need → Status
lack_need (Some need_as.Cyclic) = Cyclic
lack_need (Some need_as.Refused) = Refused
lack_need _ = Unknown

-- what is kept of the needs of a version
abbrev pub shown_over : (ℕ → Option Shown) → Version → List ℕ → Option Shown
shown_over shown version name = shown_need shown (need_in (needs_of version.tree) version.needs name)

-- and the status of each that was not accepted
abbrev pub lack_over : Version → List ℕ → Status
lack_over version name = lack_need (need_in (needs_of version.tree) version.needs name)

-- the number of a version that is needed is below another one
abbrev pub IsNeedBelow : ℕ → Need → Type 0
IsNeedBelow next (need_as.Version id) = id < next
IsNeedBelow next _ = Unit {0}

-- this was found of a version, with an exact face, over modules of which that is kept which is kept under the numbers of its needs, and the
-- others as they were
pub record IsVersion (known : LevelTables) (shown : ℕ → Option Shown) (next : ℕ) (name : List ℕ) (version : Version) : Type 0 where
  pub needs : AllByRecursion (IsNeedBelow next) version.needs
  pub itself : version.id < next
  pub over : Over
  pub shows : (other : List ℕ) → shown_in (over.told other) ≡ shown_over shown version other
  pub lacks : (other : List ℕ) → over.lacks other ≡ lack_over version other
  pub exact : IsExactOutcome version.found.outcome
  pub found : IsFoundOver known over (shown version.id) name version.tree version.found

-- so it was of each of these
abbrev pub AreVersions : LevelTables → (ℕ → Option Shown) → ℕ → List (List ℕ × Version) → Type 0
AreVersions known shown next versions = (name : List ℕ) (version : Version) → entry_of versions name ≡ Some version → IsVersion known shown next name version

-- something is kept under each number, so that this was found of all of these
abbrev pub AreHeld : LevelTables → ℕ → List (List ℕ × Version) → Type 0
AreHeld known next versions = (shown : ℕ → Option Shown) × AreVersions known shown next versions

-- the same of two lists of versions
abbrev pub AreHeldWith : LevelTables → ℕ → List (List ℕ × Version) → List (List ℕ × Version) → Type 0
AreHeldWith known next versions others = (shown : ℕ → Option Shown) × AreVersions known shown next versions × AreVersions known shown next others
