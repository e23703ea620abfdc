-- What is found of the levels of a module, over what the files are that it names.
use Rattle.indexmap.specs.IndexMap.{get}
use Rattle.std.specs.Prelude.{◌≡◌, ◌<◌, ℕ, List, [], Option, nat_eq}
use Rattle.unit_grammar.specs.Units.{ModuleUnits}
use Rattle.tla_model.specs.Scopes.{Finding}
use Rattle.module_model.specs.Exports.{exports_of, files_of}
use Rattle.module_model.specs.Imports.{Imports}
use Rattle.module_model.specs.Modules.{text_of}
use Rattle.module_model.specs.Resolution.{findings, words_of}
use Rattle.kind_text.specs.FlatModule.{Extends}
use Rattle.tree_kinds.specs.Standing.{Outside}
use Rattle.module_kinds.specs.ModuleKinds.{kind_faults, last as last_state, level_findings, level_of, outside, views}
use Rattle.flat_trees.specs.Instances.{symbols_of}
use Rattle.flattened_trees.specs.Leads.{FlatFace}
use Rattle.flattened_trees.specs.Questions.{Question}
use Rattle.flattened_units.specs.Units.{IsModuleMade, Reader}
use Rattle.readable_laws.specs.Uses.{implied_by, means_by}
use Rattle.module_levels.specs.Passed.{or_constant}
use Rattle.module_leads.specs.Leading.{face_over}
pub use Rattle.module_leads.specs.Leading.{leading_in}
pub use Rattle.module_leads.specs.Ways.{face_at}
pub use Rattle.module_levels.specs.Passed.{file_faces}
use Rattle.module_levels.specs.Kept.{IsAnswered}
pub use Rattle.module_levels.specs.Kept.{AreKept}
pub use Rattle.module_levels.specs.declared.levels.ModuleLevels.{ModuleLevels}
pub use Rattle.module_levels.specs.declared.tables.LevelTables.{LevelTables}
use Rattle.leveled_modules.specs.Parts.{constant_files}

-- what files are to their instances, by the numbers of their faces
abbrev pub faces_by : LevelTables → (List ℕ → Option ℕ) → List ℕ → FlatFace
faces_by known numbers = file_faces (leading_in known.tables.leads).faces numbers

-- files have the names that imports have, and are constant where their faces are
pub record AreFilesOf (faces : List ℕ → FlatFace) (imports : Imports) (outsides : List ℕ → Outside) : Type 0 where
  pub names : (λ name. (outsides name).view) ≡ files_of imports
  pub constant : (name : List ℕ) → constant_files faces name ≡ (outsides name).is_constant

-- what is found of the names of a module
abbrev pub names_found : (List ℕ → Outside) → List ℕ → ModuleUnits → List Finding
names_found outsides source units = findings (views (text_of source units) outsides (words_of units)) source units

-- nodes of a module are made over those of earlier ones, by what is found of its names; it has a face with a number, as what it is to
-- others; earlier faces stay; and what is found of its levels is what its nodes answer
pub record IsModuleLeveled (files : List ℕ → FlatFace) (outsides : List ℕ → Outside) (source : List ℕ) (units : ModuleUnits) (old new : LevelTables) (found : ModuleLevels) : Type 0 where
  pub last : Reader
  pub asked : List Question
  pub extends : Extends old.tables.state.flat new.tables.state.flat
  pub more_faces : (leading_in old.tables.leads).count < (leading_in new.tables.leads).count
  pub faces : (other : ℕ) → other < (leading_in old.tables.leads).count → (leading_in new.tables.leads).faces other ≡ (leading_in old.tables.leads).faces other
  pub there : found.face < (leading_in new.tables.leads).count
  pub is : (leading_in new.tables.leads).faces found.face
      ≡ face_over (outside outsides source units).view.parameters 0 (outside outsides source units).is_constant
      (exports_of (last_state outsides source units).read.place.here.exports) last.setting.leads
  pub made : IsModuleMade new.tables.state.flat (means_by (names_found outsides source units)) (implied_by (names_found outsides source units)) files outsides source units
      (symbols_of (outside outsides source units)) last asked
  pub answered : IsAnswered new.tables.state.flat asked found

-- faults and, without any, levels of uses are those of a module
pub record AreLevelsOf (outsides : List ℕ → Outside) (source : List ℕ) (units : ModuleUnits) (found : ModuleLevels) : Type 0 where
  pub faults : found.faults ≡ kind_faults outsides source units
  pub levels : found.faults ≡ [] → (start : ℕ) → or_constant (get nat_eq found.levels start) ≡ level_of (level_findings outsides source units) start
