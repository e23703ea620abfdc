-- What is asked besides of a module with nested ones: what these bring is new in the modules round them, or stands there as before. Or they
-- bring nothing.
use Rattle.std.specs.Prelude.{◌≡◌, ℕ, suc, ◌-◌, List, [], ◌∷◌, Option}
use Rattle.unit_grammar.specs.Units.{Instance, ModuleBegin, ModuleEnd, ModuleUnits, UnitTree}
use Rattle.tla_model.specs.Entities.{Meaning, Text}
use Rattle.module_scope.specs.Environments.{first as first_scope}
use Rattle.module_model.specs.Modules.{text_of}
use Rattle.module_model.specs.Resolution.{words_of}
use Rattle.kind_text.specs.FlatModule.{FlatModule}
use Rattle.tree_kinds.specs.Standing.{Outside}
use Rattle.module_kinds.specs.ModuleKinds.{KindState, after, first}
use Rattle.flattened_trees.specs.Leads.{FlatFace}
use Rattle.flattened_trees.specs.Questions.{Question}
use Rattle.flattened_units.specs.Units.{AreUnitsMade, IsModuleMade, Reader}
use Rattle.module_meanings.specs.Premises.{IsBroughtGiven, first_seen, seen_behind}

-- a unit that nested modules do not bring names by: a nested module that begins extends nothing, and an INSTANCE without a name stands in no
-- nested module, by how many are round it
abbrev pub IsQuiet : ℕ → UnitTree → Type 0
IsQuiet depth (ModuleBegin dashes name extends) = extends ≡ []
IsQuiet depth (Instance local x) = depth ≡ 0
IsQuiet depth unit = Unit {0}

-- how many are round the next unit
abbrev pub depth_behind : ℕ → UnitTree → ℕ
depth_behind depth (ModuleBegin dashes name extends) = suc depth
depth_behind depth (ModuleEnd closing) = depth - 1
depth_behind depth unit = depth

-- nested modules among these units bring nothing
abbrev pub AreQuiet : ℕ → List UnitTree → Type 0
AreQuiet depth [] = Unit {0}
AreQuiet depth (unit ∷ units) = IsQuiet depth unit × AreQuiet (depth_behind depth unit) units

module _ (flat : FlatModule) (text : Text) (means : ℕ → Option Meaning) (implied : ℕ → List Meaning) (files : List ℕ → FlatFace) (outsides : List ℕ → Outside) (words : List ℕ) where
  -- units, one after another, as they come: what each brings is given
  abbrev pub AreUnitsBringing : (state : KindState) (reader : Reader) (seen : List Meaning) (units : List UnitTree) (next : Reader) (asked : List Question) → AreUnitsMade flat text means implied files outsides words state reader units next asked → Type 0
  AreUnitsBringing state reader seen [] next asked made = Unit {0}
  AreUnitsBringing state reader seen (unit ∷ units) next asked made =
      IsBroughtGiven flat text means implied files outsides words state reader seen unit
      × AreUnitsBringing (after text outsides words state unit) made.0 (seen_behind text outsides words state unit made.0 seen) units next made.2 made.4

module _ (flat : FlatModule) (means : ℕ → Option Meaning) (implied : ℕ → List Meaning) (files : List ℕ → FlatFace) (outsides : List ℕ → Outside) (source : List ℕ) (units : ModuleUnits) where
  -- what nested modules of a module bring is given, as it comes with these symbols
  abbrev pub IsModuleBringing : (symbols : List Meaning) (last : Reader) (asked : List Question) → IsModuleMade flat means implied files outsides source units symbols last asked → Type 0
  IsModuleBringing symbols last asked made =
      AreUnitsBringing flat (text_of source units) means implied files outsides (words_of units) (first outsides source units)
      (record {
        setting = record { leads = made.0; frame = symbols; olds = [] };
        round = [];
        faces = first_scope (text_of source units).file;
      })
      (first_seen flat means implied files outsides source units symbols) units.units last asked made.2
