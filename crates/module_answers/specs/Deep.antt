-- What the units of a module are so that its nodes answer what is too deep in it, and in the modules that are nested in it, beside what lets
-- these mean the module; and how deep it is outside.
use Rattle.std.specs.Prelude.{◌≡◌, ◌⊎◌, ℕ, true, List, [], ◌∷◌, ◌++◌, Option, Some, None}
use Rattle.std.specs.List.{AllByRecursion}
use Rattle.tla_symbols.specs.declared.lexeme.Lexeme.{Lexeme}
use Rattle.tla_tree.specs.declared.form.Form.TheVariants as Form
use Rattle.tla_tree.specs.Syntax.{Tree, Node}
use Rattle.unit_grammar.specs.Units.{UnitTree, OperatorDefinition, FunctionDefinition, ModuleDefinition, Instance, Assumption, Theorem, ModuleBegin, ModuleUnits}
use Rattle.tla_model.specs.Contexts.{meaning_of}
use Rattle.tla_model.specs.Entities.{Meaning, Text}
use Rattle.tla_model.specs.Lexemes.{spelled}
use Rattle.tla_model.specs.Tables.{Named}
use Rattle.module_scope.specs.Environments.{Scope, begun, first as first_scope, meaning as module_meaning}
use Rattle.module_model.specs.Exports.{Known, behind_instance, behind_meaning, entry_of, exports_of}
use Rattle.module_model.specs.Modules.{text_of}
use Rattle.module_model.specs.Resolution.{words_of}
use Rattle.kind_text.specs.FlatModule.{FlatModule}
use Rattle.tree_kinds.specs.Standing.{Outside}
use Rattle.module_kinds.specs.ModuleKinds.{KindState, after, depths_behind, first, known_at, last, named, named_in, outside}
use Rattle.flat_trees.specs.Stands.{Stand}
use Rattle.flat_kinds.specs.Readings.{Leaves}
use Rattle.flat_kinds.specs.Symbols.{same_symbol}
use Rattle.flat_depths.specs.Depths.{IsDeepModule}
use Rattle.flattened_trees.specs.Agreeing.{TakesAs, is_seen}
use Rattle.flattened_trees.specs.Leads.{FlatFace}
use Rattle.flattened_trees.specs.Questions.{Question}
use Rattle.flattened_depths.specs.Arranged.{AreArranged, BindsNothing, IsArranged, IsArrangedDefinition}
use Rattle.flattened_depths.specs.Rounds.{LeadsAs, LeadsBehind, TakesParameters}
use Rattle.flattened_units.specs.Units.{AreUnitsMade, IsModuleMade, Reader, face_in}
use Rattle.module_meanings.specs.Following.{LeadOutside}
use Rattle.module_meanings.specs.Premises.{first_seen, seen_behind}
use Rattle.module_answers.specs.Shaped.{IsClaimGiven}

module _ (flat : FlatModule) (text : Text) (means : ℕ → Option Meaning) (implied : ℕ → List Meaning) (files : List ℕ → FlatFace) (outsides : List ℕ → Outside) (words : List ℕ) where
  -- ---- modules that are named

  -- what is asked of a module that is named, by what its name means: of a file that its names lead where these stand, as deep as outside of
  -- it, and take what it has behind an instance. Of nested modules that is shown
  abbrev pub IsDeepFileBy : Known → (List ℕ → Outside) → Scope FlatFace → Lexeme → Option (Option FlatFace) → Type 0
  IsDeepFileBy known modules faces l None =
      (inner : Named → Stand) × LeadsAs flat text known modules (face_in flat text means implied files outsides words faces) l inner (behind_instance (modules (spelled text.source l)).view)
  IsDeepFileBy known modules faces l (Some nested) = Unit {0}

  -- the same by its name
  abbrev pub IsDeepFile : Known → (List ℕ → Outside) → Scope FlatFace → Lexeme → Type 0
  IsDeepFile known modules faces l = IsDeepFileBy known modules faces l (module_meaning faces.here (spelled text.source l))

  -- what is asked of the module of a module definition: of a file the same, by what stands for the names of modules
  abbrev pub IsDeepBehindBy : KindState → Reader → UnitTree → (List ℕ → Named → Stand) → Lexeme → Lexeme → Option (Option FlatFace) → Type 0
  IsDeepBehindBy state reader unit inside own l None =
      LeadsBehind flat text (known_at text outsides words state unit) (named text outsides words state) (face_in flat text means implied files outsides words reader.faces) inside own l
  IsDeepBehindBy state reader unit inside own l (Some nested) = Unit {0}

  -- the same by its name
  abbrev pub IsDeepBehind : KindState → Reader → UnitTree → (List ℕ → Named → Stand) → Lexeme → Lexeme → Type 0
  IsDeepBehind state reader unit inside own l = IsDeepBehindBy state reader unit inside own l (module_meaning reader.faces.here (spelled text.source l))

  -- ---- units

  -- what was seen before a unit it leaves, or that is as deep behind it as before
  abbrev pub SeenStayDeep : KindState → UnitTree → List Meaning → Type 0
  SeenStayDeep state unit seen =
      (meaning : Meaning) → is_seen seen meaning ≡ true
      → Leaves text outsides words state unit meaning ⊎ ((path : List Named) → depths_behind text outsides words state unit meaning path ≡ state.depths meaning path)

  -- an INSTANCE without a name is arranged, and so is its module; in a nested module what it brings is new, or as deep as before
  abbrev pub IsArrangedBringing : KindState → Reader → List Meaning → UnitTree → Tree → Type 0
  IsArrangedBringing state reader seen unit (Node (Form.Instance l) s rights) =
      (inside : List ℕ → Named → Stand) × BindsNothing (Form.Instance l) rights × AreArranged (IsDeepBehind state reader unit inside) true rights
      × IsDeepFile (known_at text outsides words state unit) (named text outsides words state) reader.faces l
      × ((reader.round ≡ [] → ⊥) → SeenStayDeep state unit seen)
  IsArrangedBringing state reader seen unit x = ⊥

  -- a definition is arranged
  abbrev pub IsArrangedAt : KindState → Reader → UnitTree → Tree → Type 0
  IsArrangedAt state reader unit x = (inside : List ℕ → Named → Stand) × IsArrangedDefinition (IsDeepBehind state reader unit inside) x

  -- an assumption or a theorem can be read, and is arranged
  abbrev pub IsArrangedClaim : KindState → Reader → List Meaning → UnitTree → Tree → Type 0
  IsArrangedClaim state reader seen unit x =
      (inside : List ℕ → Named → Stand) × IsClaimGiven flat text means implied files outsides words state reader seen unit x × IsArranged (IsDeepBehind state reader unit inside) x

  -- a nested module that begins: its own symbols have no depth; files that it extends are as deep as outside of them; and what it brings so
  -- is new, or as deep as before
  pub record IsBegunArranged (state : KindState) (reader : Reader) (seen own : List Meaning) (dashes name : Lexeme) (extends : List Lexeme) : Type 0 where
    pub plain : AllByRecursion (λ symbol. (meaning : Meaning) → same_symbol meaning symbol ≡ true → state.depths meaning [] ≡ record { depth = 0; replaced = 0 }) own
    pub extended :
        AllByRecursion
        (IsDeepFile (after text outsides words state (ModuleBegin dashes name extends)).read.known (named_in text outsides words (begun state.modules (spelled text.source name)))
        (begun reader.faces (spelled text.source name))) extends
    pub stay : SeenStayDeep state (ModuleBegin dashes name extends) seen

  -- the tree of a unit is arranged, by the reader behind it; a nested module that begins is so
  abbrev pub IsUnitArranged : KindState → Reader → List Meaning → UnitTree → Reader → Type 0
  IsUnitArranged state reader seen (OperatorDefinition local x) next = IsArrangedAt state reader (OperatorDefinition local x) x
  IsUnitArranged state reader seen (FunctionDefinition local x) next = IsArrangedAt state reader (FunctionDefinition local x) x
  IsUnitArranged state reader seen (ModuleDefinition local x) next = IsArrangedAt state reader (ModuleDefinition local x) x
  IsUnitArranged state reader seen (Instance local x) next = IsArrangedBringing state reader seen (Instance local x) x
  IsUnitArranged state reader seen (Assumption word name x) next = IsArrangedClaim state reader seen (Assumption word name x) x
  IsUnitArranged state reader seen (Theorem word name x) next = IsArrangedClaim state reader seen (Theorem word name x) x
  IsUnitArranged state reader seen (ModuleBegin dashes name extends) next =
      (own : List Meaning) → next.setting.frame ≡ reader.setting.frame ++ own → IsBegunArranged state reader seen own dashes name extends
  IsUnitArranged state reader seen unit next = Unit {0}

  -- the same of units, one after another, as they come
  abbrev pub AreUnitsArranged : (state : KindState) (reader : Reader) (seen : List Meaning) (units : List UnitTree) (next : Reader) (asked : List Question) → AreUnitsMade flat text means implied files outsides words state reader units next asked → Type 0
  AreUnitsArranged state reader seen [] next asked made = Unit {0}
  AreUnitsArranged state reader seen (unit ∷ units) next asked made =
      IsUnitArranged state reader seen unit made.0
      × AreUnitsArranged (after text outsides words state unit) made.0 (seen_behind text outsides words state unit made.0 seen) units next made.2 made.4

module _ (flat : FlatModule) (means : ℕ → Option Meaning) (implied : ℕ → List Meaning) (files : List ℕ → FlatFace) (outsides : List ℕ → Outside) (source : List ℕ) (units : ModuleUnits) where
  -- a module, as it comes with these symbols
  pub record IsModuleArranged (symbols : List Meaning) (last : Reader) (asked : List Question) (made : IsModuleMade flat means implied files outsides source units symbols last asked) : Type 0 where
    pub extended :
        AllByRecursion
        (IsDeepFile flat (text_of source units) means implied files outsides (words_of units) (first outsides source units).read.known
        (named_in (text_of source units) outsides (words_of units) (first_scope (text_of source units).file)) (first_scope (text_of source units).file)) units.extends
    pub arranged :
        AreUnitsArranged flat (text_of source units) means implied files outsides (words_of units) (first outsides source units)
        (record {
          setting = record { leads = made.0; frame = symbols; olds = [] };
          round = [];
          faces = first_scope (text_of source units).file;
        })
        (first_seen flat means implied files outsides source units symbols) units.units last asked made.2

-- the names of a module lead where these stand, as deep as outside of it; instances on the way take what is said of them; and names that can
-- be used behind its units take what they take there
pub record IsDeepSo (flat : FlatModule) (outsides : List ℕ → Outside) (source : List ℕ) (units : ModuleUnits) (symbols : List Meaning) (final : Reader) : Type 0 where
  pub inner : Named → Stand
  pub leads : LeadOutside flat outsides source units symbols final inner
  pub deep : IsDeepModule flat inner (outside outsides source units)
  pub parameters : (name : Named) → TakesParameters flat (inner name)
  pub takes :
      (name used : Named) (meaning : Meaning) → entry_of (exports_of (last outsides source units).read.place.here.exports) name ≡ Some meaning
      → meaning_of (last outsides source units).read.place.here.context used ≡ Some meaning
      → TakesAs (inner name) (behind_meaning (last outsides source units).read.known (Some meaning)) meaning
