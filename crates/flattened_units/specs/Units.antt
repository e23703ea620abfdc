-- When nodes of a flat module are what the units of a module write, where names lead behind each unit, and what is asked of it. What
-- names a module has is told by its state.
use Rattle.std.specs.Prelude.{◌≡◌, ℕ, suc, false, true, List, [], ◌∷◌, ◌++◌, Option, Some, None, drop, if◌then◌else◌, length, map, slice_get}
use Rattle.tla_symbols.specs.declared.lexeme.Lexeme.{Lexeme}
use Rattle.tla_tree.specs.declared.form.Form.TheVariants as Form
use Rattle.tla_tree.specs.Syntax.{Tree, Node, span}
use Rattle.unit_grammar.specs.Units.{UnitTree, OperatorDefinition, FunctionDefinition, ModuleDefinition, Instance, Assumption, Theorem, ModuleBegin, ModuleEnd, ModuleUnits}
use Rattle.tla_model.specs.Tables.{Named}
use Rattle.tla_model.specs.Entities.{Meaning, Text}
use Rattle.tla_model.specs.Lexemes.{spelled}
use Rattle.module_scope.specs.Environments.{Scope, begun, ended, meaning as module_meaning, first as first_scope}
use Rattle.module_model.specs.Exports.{Exports, entry_of, exported, exports_of, instantiable}
use Rattle.module_model.specs.Modules.{Reading, text_of}
use Rattle.module_model.specs.Instances.{nested_view}
use Rattle.module_model.specs.Resolution.{instance_brings, words_of}
use Rattle.kind_text.specs.FlatModule.{FlatModule, Replacement}
use Rattle.tree_kinds.specs.Standing.{Outside, name_among, operator_places}
use Rattle.module_kinds.specs.ModuleKinds.{KindState, after, first, named_in, views}
use Rattle.flat_trees.specs.Layouts.{order_of}
use Rattle.flat_kinds.specs.Symbols.{same_symbol}
use Rattle.flattened_trees.specs.declared.End.TheVariants as end
use Rattle.flattened_trees.specs.Agreeing.{lead_by, unsaid_stand}
use Rattle.flattened_trees.specs.Flattened.{AreRights, AreStaying, HasNode, IsDefined, IsFlattened, IsInstance, Right}
use Rattle.flattened_trees.specs.Leads.{FlatFace, Lead, Leads, Setting, behind, nowhere, only, through}
use Rattle.flattened_trees.specs.NodeForms.{lead_of, name_node}
use Rattle.flattened_trees.specs.Questions.{Question, IsConstant, IsShallowNode, over}

-- ---- where names lead

-- nothing is said of any name, but that bound names and what is built in are leaves
abbrev pub no_leads : Leads
no_leads meaning names = lead_by (unsaid_stand meaning) names

-- symbols at places from this one on, each of its own entity alone, before what is said of other names
abbrev pub with_symbols : Leads → List Meaning → ℕ → Leads
with_symbols leads [] place other names = leads other names
with_symbols leads (meaning ∷ rest) place other names =
    if same_symbol other meaning then only (end.Place place (order_of meaning)) names else with_symbols leads rest (suc place) other names

-- behind an instance, or where a name leads that does not come through it
abbrev pub coming_lead : ℕ → FlatFace → Lead → List Named → Option Named → Lead
coming_lead j face lead names None = lead
coming_lead j face lead names (Some name) = through j (face.leads (name ∷ names))

-- with entries of a module, which come through an instance without a name
abbrev pub with_brought : Leads → Exports → ℕ → FlatFace → Leads
with_brought leads entries j face meaning names = coming_lead j face (leads meaning names) names (name_among entries meaning)

-- outside of a module, by what it exports
abbrev pub exported_leads : Leads → Exports → List Named → Lead
exported_leads leads entries [] = nowhere
exported_leads leads entries (name ∷ names) = lead_of leads (entry_of entries name) names

-- no module, or one round this place
abbrev pub no_face : FlatFace
no_face = record { parameters = []; outer = 0; leads = λ names. nowhere; is_constant = true }

-- a nested module that can be named, or else the file
abbrev pub face_under : (List ℕ → FlatFace) → Option (Option FlatFace) → List ℕ → FlatFace
face_under files None name = files name
face_under files (Some None) name = no_face
face_under files (Some (Some face)) name = face

-- the module that is read and those round it, with the modules that can be named
pub record Reader : Type 0 where
  pub setting : Setting
  pub round : List Setting
  pub faces : Scope FlatFace

-- what a module is to its instances by its entries, its symbols first of all that stand in a frame behind those round it
abbrev pub face_by : Exports → ℕ → Exports → Setting → FlatFace
face_by parameters outer entries setting =
    record { parameters = parameters; outer = outer; leads = exported_leads setting.leads entries; is_constant = false }

-- the symbols that entries mean
abbrev pub meanings_of : Exports → List Meaning
meanings_of entries = map (λ entry. entry.1) entries

module _ (flat : FlatModule) where
  -- symbols of a module that is extended are the symbols here that mean the same
  abbrev pub AreShared : Leads → Exports → List Replacement → Type 0
  AreShared leads [] [] = Unit {0}
  AreShared leads (parameter ∷ parameters) (r ∷ made) =
      HasNode flat r.root (name_node (operator_places (Some parameter.1)) (leads parameter.1 []) []) × (r.most ≡ None) × AreShared leads parameters made
  AreShared leads _ _ = ⊥

  -- a module that is extended comes through this instance, which lets its symbols stand as they do here
  abbrev pub IsExtension : Setting → FlatFace → ℕ → Type 0
  IsExtension setting face j =
      (staying made : List Replacement)
      × (slice_get flat.instances j ≡ Some (record { outer = length setting.frame; parameters = 0; guards = false; replacements = staying ++ made }))
      × AreStaying flat 0 face.outer staying × AreShared setting.leads face.parameters made

  module _ (text : Text) (means : ℕ → Option Meaning) (implied : ℕ → List Meaning) (files : List ℕ → FlatFace) (outsides : List ℕ → Outside) (words : List ℕ) where
    -- the module of a name, among those that can be named
    abbrev pub face_in : Scope FlatFace → List ℕ → FlatFace
    face_in faces name = face_under files (module_meaning faces.here name) name

    -- what the module of a name brings to one that extends it
    abbrev pub entries_in : Scope Outside → Lexeme → Exports
    entries_in modules l = instantiable (exported (named_in text outsides words modules (spelled text.source l)).view)

    -- these modules are extended, one after another: all symbols stand before them
    abbrev pub AreExtended : Scope Outside → Scope FlatFace → Setting → Leads → List Lexeme → Leads → Type 0
    AreExtended modules faces setting leads [] next = next ≡ leads
    AreExtended modules faces setting leads (l ∷ rest) next =
        (j : ℕ) × IsExtension setting (face_in faces (spelled text.source l)) j
        × AreExtended modules faces setting (with_brought leads (entries_in modules l) j (face_in faces (spelled text.source l))) rest next

    -- with other leads
    abbrev pub leading : Reader → Leads → Reader
    leading reader leads = record reader { setting = record { leads = leads; frame = reader.setting.frame; olds = reader.setting.olds } }

    -- a definition of a unit
    abbrev pub IsDefinitionMade : Reader → Tree → Reader → List Question → Type 0
    IsDefinitionMade reader x next asked =
        (lead : List Named → Lead) × (roots : List ℕ) × IsDefined text means implied (face_in reader.faces) flat reader.setting x lead roots asked
        × (next ≡ record reader { setting = behind text reader.setting x lead })

    -- an INSTANCE without a name, which brings what the state has that it brings
    abbrev pub IsInstanceMade : KindState → Reader → Tree → Reader → List Question → Type 0
    IsInstanceMade state reader (Node (Form.Instance l) s rights) next asked =
        (written : List Right) × (roots : List ℕ) × (j : ℕ) × (a b : List Question)
        × AreRights text means implied (face_in reader.faces) flat reader.setting l rights written roots a
        × IsInstance text means implied (face_in reader.faces) flat reader.setting (length reader.setting.frame) 0 false l written j b
        × (next ≡ leading reader (with_brought reader.setting.leads (instance_brings text (views text outsides words) words state.read (Node (Form.Instance l) s rights)) j (face_in reader.faces (spelled text.source l))))
        × (asked ≡ a ++ b)
    IsInstanceMade state reader x next asked = (next ≡ reader) × (asked ≡ [])

    -- an assumption or a theorem
    abbrev pub IsClaimMade : Reader → Lexeme → Tree → (ℕ → List Question) → Reader → List Question → Type 0
    IsClaimMade reader word x more next asked =
        (i : ℕ) × (a : List Question) × IsFlattened text means implied (face_in reader.faces) flat reader.setting x i a
        × (next ≡ reader) × (asked ≡ over reader.setting.frame (IsShallowNode word i ∷ []) ++ (a ++ more i))

    -- a nested module begins: symbols of its own stand at the next places, and then it extends modules
    abbrev pub IsBegun : KindState → Reader → Lexeme → List Lexeme → Reader → Type 0
    IsBegun state reader name extends next =
        (own : List Meaning) × (leads : Leads)
        × (let inner : Setting = record { leads = with_symbols reader.setting.leads own (length reader.setting.frame); frame = reader.setting.frame ++ own; olds = [] } in
        AreExtended (begun state.modules (spelled text.source name)) (begun reader.faces (spelled text.source name)) inner inner.leads extends leads
        × (next ≡ record {
          setting = record { leads = leads; frame = inner.frame; olds = [] };
          round = reader.setting ∷ reader.round;
          faces = begun reader.faces (spelled text.source name);
        }))

    -- what a nested module is to its instances at its end, by the state there
    abbrev pub nested_face : KindState → Reading → Setting → Setting → FlatFace
    nested_face state outside setting outer =
        face_by (nested_view state.read.known outside.context (exports_of state.read.place.here.exports)).parameters (length outer.frame) (exports_of state.read.place.here.exports) setting

    -- a nested module ends: its own symbols are those that stand behind the symbols round it
    abbrev pub IsEnded : KindState → List Reading → Reader → List Setting → Reader → Type 0
    IsEnded state (outside ∷ readings) reader (outer ∷ round) next =
        (meanings_of (nested_face state outside reader.setting outer).parameters ≡ drop (length outer.frame) reader.setting.frame)
        × (next ≡ record { setting = outer; round = round; faces = ended (nested_face state outside reader.setting outer) reader.faces.here reader.faces.round })
    IsEnded state _ reader _ next = ⊥

    -- a unit at a state
    abbrev pub IsUnitMade : KindState → Reader → UnitTree → Reader → List Question → Type 0
    IsUnitMade state reader (OperatorDefinition local x) next asked = IsDefinitionMade reader x next asked
    IsUnitMade state reader (FunctionDefinition local x) next asked = IsDefinitionMade reader x next asked
    IsUnitMade state reader (ModuleDefinition local x) next asked = IsDefinitionMade reader x next asked
    IsUnitMade state reader (Instance local x) next asked = IsInstanceMade state reader x next asked
    IsUnitMade state reader (Assumption word name x) next asked =
        IsClaimMade reader word x (λ i. over reader.setting.frame (IsConstant (span x) i ∷ [])) next asked
    IsUnitMade state reader (Theorem word name x) next asked = IsClaimMade reader word x (λ i. []) next asked
    IsUnitMade state reader (ModuleBegin dashes name extends) next asked = IsBegun state reader name extends next × (asked ≡ [])
    IsUnitMade state reader (ModuleEnd closing) next asked = IsEnded state state.read.place.round reader reader.round next × (asked ≡ [])
    IsUnitMade state reader unit next asked = (next ≡ reader) × (asked ≡ [])

    -- the same of units, one after another
    abbrev pub AreUnitsMade : KindState → Reader → List UnitTree → Reader → List Question → Type 0
    AreUnitsMade state reader [] next asked = (next ≡ reader) × (asked ≡ [])
    AreUnitsMade state reader (unit ∷ units) next asked =
        (mid : Reader) × (a b : List Question) × IsUnitMade state reader unit mid a
        × AreUnitsMade (after text outsides words state unit) mid units next b × (asked ≡ a ++ b)

-- ---- modules

module _ (flat : FlatModule) (means : ℕ → Option Meaning) (implied : ℕ → List Meaning) (files : List ℕ → FlatFace) (outsides : List ℕ → Outside) (source : List ℕ) (units : ModuleUnits) where
  -- these symbols stand at places from the first on
  abbrev pub symbol_setting : List Meaning → Setting
  symbol_setting symbols = record { leads = with_symbols no_leads symbols 0; frame = symbols; olds = [] }

  -- a module with these symbols, up to this reader behind its units; and what is asked of it
  abbrev pub IsModuleMade : List Meaning → Reader → List Question → Type 0
  IsModuleMade symbols last asked =
      (leads : Leads)
      × AreExtended flat (text_of source units) means implied files outsides (words_of units) (first_scope (text_of source units).file) (first_scope (text_of source units).file)
      (symbol_setting symbols) (symbol_setting symbols).leads units.extends leads
      × AreUnitsMade flat (text_of source units) means implied files outsides (words_of units) (first outsides source units)
      (record { setting = record { leads = leads; frame = symbols; olds = [] }; round = []; faces = first_scope (text_of source units).file }) units.units last asked
