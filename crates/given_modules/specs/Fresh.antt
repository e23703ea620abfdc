-- When the names of the trees of a module are new, each at its unit.
use Rattle.std.specs.Prelude.{ℕ, List, [], ◌∷◌, Option}
use Rattle.tla_tree.specs.Syntax.{Trees, Nil, Cons}
use Rattle.unit_grammar.specs.Units.{ModuleUnits, UnitTree}
use Rattle.tla_model.specs.Entities.{Meaning, Text}
use Rattle.module_scope.specs.Environments.{first as first_scope}
use Rattle.module_model.specs.Instances.{unit_trees}
use Rattle.module_model.specs.Modules.{text_of}
use Rattle.module_model.specs.Resolution.{words_of}
use Rattle.kind_text.specs.FlatModule.{FlatModule}
use Rattle.tree_kinds.specs.Standing.{Outside}
use Rattle.module_kinds.specs.ModuleKinds.{KindState, after, first}
use Rattle.flattened_trees.specs.Agreeing.{IsFresh}
use Rattle.flattened_trees.specs.Leads.{FlatFace}
use Rattle.flattened_trees.specs.Questions.{Question}
use Rattle.flattened_units.specs.Units.{AreUnitsMade, IsModuleMade, Reader}
use Rattle.module_meanings.specs.Premises.{first_seen, seen_behind}

-- the names that each of these trees declares and binds are new
abbrev pub AreTreesFresh : Text → List Meaning → Trees → Type 0
AreTreesFresh text seen Nil = Unit {0}
AreTreesFresh text seen (Cons x rest) = IsFresh text seen x × AreTreesFresh text seen rest

module _ (flat : FlatModule) (text : Text) (means : ℕ → Option Meaning) (implied : ℕ → List Meaning) (files : List ℕ → FlatFace) (outsides : List ℕ → Outside) (words : List ℕ) where
  -- the same of units, one after another, as they come
  abbrev pub AreUnitsFresh : (state : KindState) (reader : Reader) (seen : List Meaning) (units : List UnitTree) (next : Reader) (asked : List Question) → AreUnitsMade flat text means implied files outsides words state reader units next asked → Type 0
  AreUnitsFresh state reader seen [] next asked made = Unit {0}
  AreUnitsFresh state reader seen (unit ∷ units) next asked made =
      AreTreesFresh text seen (unit_trees unit)
      × AreUnitsFresh (after text outsides words state unit) made.0 (seen_behind text outsides words state unit made.0 seen) units next made.2 made.4

module _ (flat : FlatModule) (means : ℕ → Option Meaning) (implied : ℕ → List Meaning) (files : List ℕ → FlatFace) (outsides : List ℕ → Outside) (source : List ℕ) (units : ModuleUnits) where
  -- a module, as it comes with these symbols
  abbrev pub IsModuleFresh : (symbols : List Meaning) (last : Reader) (asked : List Question) → IsModuleMade flat means implied files outsides source units symbols last asked → Type 0
  IsModuleFresh symbols last asked made =
      AreUnitsFresh flat (text_of source units) means implied files outsides (words_of units) (first outsides source units)
      (record {
        setting = record { leads = made.0; frame = symbols; olds = [] };
        round = [];
        faces = first_scope (text_of source units).file;
      })
      (first_seen flat means implied files outsides source units symbols) units.units last asked made.2
