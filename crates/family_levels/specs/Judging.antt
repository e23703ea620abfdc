-- What is found of a module over its imports: faults of imports, or of names and arities, or else what is found of levels.
use Rattle.indexmap.specs.IndexMap.{IndexMap, get}
use Rattle.std.specs.Prelude.{◌≡◌, ℕ, List, [], ◌∷◌, Option, Some, None, map, nat_eq}
use Rattle.std.specs.Arc.{arc_value}
use Rattle.tla_model.specs.declared.Diagnostic.{Diagnostic}
use Rattle.tla_model.specs.declared.entity.Level.{Level}
use Rattle.tla_model.specs.declared.entity.Use.{Use}
use Rattle.tla_tree.specs.declared.unit.ModuleTree.{ModuleTree}
use Rattle.unit_grammar.specs.UnitNodes.{module_of}
use Rattle.module_model.specs.Bindings.{AreInOrder}
use Rattle.module_model.specs.Given.{IsFaceOver}
use Rattle.module_model.specs.Imports.{Imports}
use Rattle.module_facts.specs.Checks.{CheckedModule, facts_of, facts_told, given_in}
use Rattle.tree_kinds.specs.Standing.{Outside}
use Rattle.found_levels.specs.Findings.{or_constant}
use Rattle.leveled_modules.specs.Leveled.{ModuleLevels}
use Rattle.leveled_modules.specs.Leveled.{LevelTables}
use Rattle.leveled_modules.specs.Leveled.{AreFilesOf, IsModuleLeveled, faces_by}
use Rattle.family_tables.specs.declared.outcome.Outcome.TheVariants as outcome
use Rattle.module_model.specs.declared.face.Face.{Face}
use Rattle.family_levels.specs.declared.«module».Found.{Found}
use Rattle.family_levels.specs.declared.names.Names.{Names}

-- an outcome has faults, of which this is said
abbrev pub HasFaults : (List Diagnostic → Type 0) → outcome.the_data → Type 0
HasFaults Are (outcome.Refused faults) = Are faults
HasFaults Are (outcome.Accepted face) = ⊥

-- an outcome has this face
abbrev pub HasFace : Face → outcome.the_data → Type 0
HasFace face (outcome.Refused faults) = ⊥
HasFace face (outcome.Accepted shared) = arc_value shared ≡ face

-- the names of a module that was checked
abbrev pub names_of : CheckedModule → Names
names_of checked = record { uses = checked.uses; decls = checked.decls }

-- a module is found with faults, of which this is said, and with these names
pub record IsFoundRefused (Are : List Diagnostic → Type 0) (own : Names) (found : Found) : Type 0 where
  pub outcome : HasFaults Are found.outcome
  pub number : found.number ≡ None
  pub names : found.names ≡ own

-- the level of the use that begins there
abbrev pub level_at : {S : Type 0} → IndexMap ℕ Level S → ℕ → Level
level_at levels start = or_constant (get nat_eq levels start)

-- a use with its level
abbrev pub with_level : {S : Type 0} → IndexMap ℕ Level S → Use → Use
with_level levels u = record { name = u.name; «module» = u.«module»; place = u.place; level = level_at levels u.name.start }

-- a module is found without faults: its face has its number, and its uses their levels
pub record IsFoundAccepted (checked : CheckedModule) (levels : ModuleLevels) (found : Found) : Type 0 where
  pub outcome : HasFace checked.face found.outcome
  pub number : found.number ≡ Some levels.face
  pub names : found.names ≡ record { uses = map (with_level levels.levels) checked.uses; decls = checked.decls }

-- by what is found of levels: with the faults among it, or else accepted
abbrev pub IsFoundFrom : CheckedModule → ModuleLevels → List Diagnostic → Found → Type 0
IsFoundFrom checked levels [] found = IsFoundAccepted checked levels found
IsFoundFrom checked levels (fault ∷ faults) found = IsFoundRefused (AreInOrder (fault ∷ faults)) (names_of checked) found

-- the same of all that is found of levels
abbrev pub IsFoundBy : CheckedModule → ModuleLevels → Found → Type 0
IsFoundBy checked levels found = IsFoundFrom checked levels levels.faults found

-- levels are found of a tree over imports, by the numbers of those that are accepted
pub record IsLeveledOver (tree : ModuleTree) (imports : Imports) (files : List ℕ → Option ℕ) (old new : LevelTables) (levels : ModuleLevels) : Type 0 where
  pub over : (outsides : List ℕ → Outside) → AreFilesOf (faces_by old files) imports outsides → IsModuleLeveled (faces_by old files) outsides tree.source (module_of tree) old new levels

-- the faults of names and arities, or else by what is found of levels
abbrev pub IsJudgedFrom : ModuleTree → Imports → (List ℕ → Option ℕ) → LevelTables → LevelTables → CheckedModule → List Diagnostic → Found → Type 0
IsJudgedFrom tree imports files old new checked [] found = (levels : ModuleLevels) × IsLeveledOver tree imports files old new levels × IsFoundBy checked levels found
IsJudgedFrom tree imports files old new checked (fault ∷ faults) found = IsFoundRefused (λ all. all ≡ fault ∷ faults) (names_of checked) found × (new ≡ old)

-- this is found of a tree over imports
pub record IsJudged (name : List ℕ) (tree : ModuleTree) (imports : Imports) (files : List ℕ → Option ℕ) (old new : LevelTables) (found : Found) : Type 0 where
  pub checked : CheckedModule
  pub facts : facts_told checked ≡ facts_of (given_in imports) tree.source (module_of tree)
  pub face : IsFaceOver imports name checked.face
  pub so : IsJudgedFrom tree imports files old new checked checked.faults found
