-- What the units of a module are so that its nodes answer what is found of levels in it, beside what lets these mean the module: claims can
-- be read, and all trees are shaped.
use Rattle.std.specs.Prelude.{ℕ, List, [], ◌∷◌, Option}
use Rattle.tla_tree.specs.declared.form.Form.TheVariants as Form
use Rattle.tla_tree.specs.Syntax.{Tree, Node}
use Rattle.unit_grammar.specs.Units.{UnitTree, OperatorDefinition, FunctionDefinition, ModuleDefinition, Instance, Assumption, Theorem, ModuleUnits}
use Rattle.tla_model.specs.Entities.{Meaning, Text}
use Rattle.module_scope.specs.Environments.{first as first_scope}
use Rattle.module_model.specs.Modules.{text_of}
use Rattle.module_model.specs.Resolution.{words_of}
use Rattle.kind_text.specs.FlatModule.{FlatModule}
use Rattle.tree_kinds.specs.Standing.{Outside}
use Rattle.module_kinds.specs.ModuleKinds.{KindState, after, first, known_at, named}
use Rattle.flattened_trees.specs.Leads.{FlatFace}
use Rattle.flattened_trees.specs.Questions.{Question}
use Rattle.flattened_trees.specs.Readable.{IsReadable}
use Rattle.flattened_levels.specs.Shapes.{AreShapedRights, IsShaped, IsShapedDefinition}
use Rattle.flattened_units.specs.Units.{AreUnitsMade, IsModuleMade, Reader, face_in}
use Rattle.module_meanings.specs.Premises.{IsFileAt, IsTreeGivenBy, first_seen, seen_behind}

-- an INSTANCE without a name, whose right sides are shaped
abbrev pub IsShapedInstance : Tree → Type 0
IsShapedInstance (Node (Form.Instance l) s rights) = AreShapedRights rights
IsShapedInstance x = ⊥

module _ (flat : FlatModule) (text : Text) (means : ℕ → Option Meaning) (implied : ℕ → List Meaning) (files : List ℕ → FlatFace) (outsides : List ℕ → Outside) (words : List ℕ) where
  -- an assumption or a theorem can be read
  pub record IsClaimGiven (state : KindState) (reader : Reader) (seen : List Meaning) (unit : UnitTree) (x : Tree) : Type 0 where
    pub given : IsTreeGivenBy flat text means implied files outsides words (IsFileAt flat text means implied files outsides words) state reader seen x
    pub readable :
        IsReadable text (known_at text outsides words state unit) (named text outsides words state) means implied
        (face_in flat text means implied files outsides words reader.faces) state.read.place.here.context x

  -- the tree of a unit is shaped, and that of a claim can be read
  abbrev pub IsUnitShaped : KindState → Reader → List Meaning → UnitTree → Type 0
  IsUnitShaped state reader seen (OperatorDefinition local x) = IsShapedDefinition x
  IsUnitShaped state reader seen (FunctionDefinition local x) = IsShapedDefinition x
  IsUnitShaped state reader seen (ModuleDefinition local x) = IsShapedDefinition x
  IsUnitShaped state reader seen (Instance local x) = IsShapedInstance x
  IsUnitShaped state reader seen (Assumption word name x) = IsClaimGiven state reader seen (Assumption word name x) x × IsShaped x
  IsUnitShaped state reader seen (Theorem word name x) = IsClaimGiven state reader seen (Theorem word name x) x × IsShaped x
  IsUnitShaped state reader seen unit = Unit {0}

  -- the same of units, one after another, as they come
  abbrev pub AreUnitsShaped : (state : KindState) (reader : Reader) (seen : List Meaning) (units : List UnitTree) (next : Reader) (asked : List Question) → AreUnitsMade flat text means implied files outsides words state reader units next asked → Type 0
  AreUnitsShaped state reader seen [] next asked made = Unit {0}
  AreUnitsShaped state reader seen (unit ∷ units) next asked made =
      IsUnitShaped state reader seen unit
      × AreUnitsShaped (after text outsides words state unit) made.0 (seen_behind text outsides words state unit made.0 seen) units next made.2 made.4

module _ (flat : FlatModule) (means : ℕ → Option Meaning) (implied : ℕ → List Meaning) (files : List ℕ → FlatFace) (outsides : List ℕ → Outside) (source : List ℕ) (units : ModuleUnits) where
  -- a module, as it comes with these symbols
  abbrev pub IsModuleShaped : (symbols : List Meaning) (last : Reader) (asked : List Question) → IsModuleMade flat means implied files outsides source units symbols last asked → Type 0
  IsModuleShaped symbols last asked made =
      AreUnitsShaped flat (text_of source units) means implied files outsides (words_of units) (first outsides source units)
      (record {
        setting = record { leads = made.0; frame = symbols; olds = [] };
        round = [];
        faces = first_scope (text_of source units).file;
      })
      (first_seen flat means implied files outsides source units symbols) units.units last asked made.2
