-- What is kept between modules that became nodes, and what is found of one.
use Rattle.indexmap.specs.IndexMap.{get}
use Rattle.std.specs.Prelude.{◌≡◌, ◌<◌, ℕ, Bool, List, [], nat_eq}
use Rattle.unit_grammar.specs.Units.{ModuleUnits}
use Rattle.module_model.specs.Exports.{Exports, exports_of}
use Rattle.kind_text.specs.FlatModule.{Extends, FlatModule, IsOrdered}
use Rattle.tree_kinds.specs.Standing.{Outside}
use Rattle.module_kinds.specs.ModuleKinds.{depth_faults, last as last_state, level_faults, level_of, or_levels}
use Rattle.flattened_trees.specs.Answers.{deep_answers, level_answers}
use Rattle.flattened_trees.specs.Leads.{FlatFace}
use Rattle.flattened_trees.specs.Questions.{Question}
use Rattle.flattened_units.specs.Units.{IsModuleMade, Reader, meanings_of}
use Rattle.tree_flattener.specs.Worlds.{implied_of, means_of}
use Rattle.tree_flattener.specs.declared.written.Written.{Written}
use Rattle.level_facts.specs.Facts.{IsFacts}
use Rattle.node_depths.specs.Capped.{IsDepths}
use Rattle.found_levels.specs.Findings.{or_constant}
use Rattle.module_leads.specs.Leading.{face_over, leading_in}
use Rattle.unit_flattener.specs.Modules.{IsBetween}
use Rattle.module_levels.specs.declared.levels.ModuleLevels.{ModuleLevels}
use Rattle.module_levels.specs.declared.tables.LevelTables.{LevelTables}

-- between modules: kinds and depths are those of all nodes, nothing is asked, and no frame is kept
pub record AreKept (known : LevelTables) : Type 0 where
  pub between : IsBetween known.tables
  pub ordered : IsOrdered known.tables.state.flat
  pub facts : IsFacts known.tables.state.flat known.facts
  pub depths : IsDepths known.tables.state.flat known.depths.nodes.items
  pub frames : known.tables.state.frames.items ≡ []
  pub asked : known.tables.state.asked.items ≡ []

-- kinds and depths are those of a flat module that has grown since
pub record AreBehind (known : LevelTables) : Type 0 where
  pub before : FlatModule
  pub extends : Extends before known.tables.state.flat
  pub ordered : IsOrdered before
  pub facts : IsFacts before known.facts
  pub depths : IsDepths before known.depths.nodes.items

-- faults and, without any, levels of uses are what nodes answer to these questions
pub record IsAnswered (flat : FlatModule) (asked : List Question) (found : ModuleLevels) : Type 0 where
  pub faults : found.faults ≡ or_levels (depth_faults (deep_answers flat asked)) (level_faults (level_answers flat asked))
  pub levels : found.faults ≡ [] → (start : ℕ) → or_constant (get nat_eq found.levels start) ≡ level_of (level_answers flat asked) start

-- nodes of a module are made over those of earlier ones, what it is to its instances has a number, and what is found is what nodes answer
pub record IsLeveled (written : Written) (source : List ℕ) (units : ModuleUnits) (files : List ℕ → FlatFace) (outsides : List ℕ → Outside) (old new : LevelTables) (symbols : Exports) (constant : Bool) (found : ModuleLevels) : Type 0 where
  pub last : Reader
  pub asked : List Question
  pub extends : Extends old.tables.state.flat new.tables.state.flat
  pub more_faces : (leading_in old.tables.leads).count < (leading_in new.tables.leads).count
  pub faces : (other : ℕ) → other < (leading_in old.tables.leads).count → (leading_in new.tables.leads).faces other ≡ (leading_in old.tables.leads).faces other
  pub there : found.face < (leading_in new.tables.leads).count
  pub is : (leading_in new.tables.leads).faces found.face
      ≡ face_over symbols 0 constant (exports_of (last_state outsides source units).read.place.here.exports) last.setting.leads
  pub made : IsModuleMade new.tables.state.flat (means_of written) (implied_of written) files outsides source units (meanings_of symbols) last asked
  pub answered : IsAnswered new.tables.state.flat asked found
