-- Where names lead behind each unit of a module, by resolved trees: as `flattened_units` says it, without a flat module.
use Rattle.std.specs.Prelude.{ℕ, suc, Bool, false, true, List, [], ◌∷◌, ◌++◌, Option, Some, None, if◌then◌else◌, length}
use Rattle.tla_symbols.specs.declared.level.Kind.TheVariants.{Const, State}
use Rattle.tla_symbols.specs.declared.lexeme.Lexeme.{Lexeme}
use Rattle.tla_tree.specs.declared.form.Form.TheVariants as Form
use Rattle.tla_tree.specs.Syntax.{Tree, Node as TreeNode}
use Rattle.unit_grammar.specs.Units.{UnitTree, OperatorDefinition, FunctionDefinition, ModuleDefinition, Instance as UnitInstance, Assumption, Theorem, ModuleBegin, ModuleEnd, ModuleUnits}
use Rattle.tla_model.specs.declared.entity.Entity.TheVariants as entity
use Rattle.tla_model.specs.Tables.{Named}
use Rattle.tla_model.specs.declared.names.Meaning.TheVariants.{BuiltIn, Declared}
use Rattle.tla_model.specs.Entities.{Meaning, Text}
use Rattle.tla_model.specs.Lexemes.{spelled}
use Rattle.module_scope.specs.Environments.{Scope, begun, ended, meaning as module_meaning, first as first_scope}
use Rattle.module_model.specs.Exports.{Exports, entry_of, exported, exports_of, instantiable}
use Rattle.module_model.specs.Modules.{Reading, text_of}
use Rattle.module_model.specs.Instances.{nested_view}
use Rattle.module_model.specs.Resolution.{instance_brings, words_of}
use Rattle.tree_kinds.specs.Standing.{Outside, name_among, operator_places}
use Rattle.module_kinds.specs.ModuleKinds.{KindState, after, first, named_in, views}
use Rattle.own_symbols.specs.Ahead.{own_each}
use Rattle.flat_trees.specs.Layouts.{order_of}
use Rattle.flat_kinds.specs.Symbols.{same_symbol}
use Rattle.resolved_trees.specs.Resolved.{Instance, Nil, Over, Replace, Replaced, Replacements}
use Rattle.written_trees.specs.Leading.{Face, Lead, Leads, Place, Setting, behind, nowhere, only, through}
use Rattle.written_trees.specs.Leading as leading
use Rattle.written_trees.specs.Written.{HoldsInstances, defined_lead, instance_of, lead_of, named, rights_of, staying}

-- ---- where names lead

-- nothing is said of any name, but that bound names and what is built in are leaves
abbrev pub no_leads : Leads
no_leads BuiltIn names = only (leading.Leaf Const) names
no_leads (Declared (entity.Bound state) callee) names = only (leading.Leaf (if state then State else Const)) names
no_leads meaning names = nowhere

-- symbols at places from this one on, each of its own entity alone, before what is said of other names
abbrev pub with_symbols : Leads → List Meaning → ℕ → Leads
with_symbols leads [] place other names = leads other names
with_symbols leads (meaning ∷ rest) place other names =
    if same_symbol other meaning then only (Place place (order_of meaning)) names else with_symbols leads rest (suc place) other names

-- behind an instance, or where a name leads that does not come through it
abbrev pub coming_lead : Instance → Face → Lead → List Named → Option Named → Lead
coming_lead instance face lead names None = lead
coming_lead instance face lead names (Some name) = through instance (face.leads (name ∷ names))

-- with entries of a module, which come through an instance without a name
abbrev pub with_brought : Leads → Exports → Instance → Face → Leads
with_brought leads entries instance face meaning names = coming_lead instance face (leads meaning names) names (name_among entries meaning)

-- outside of a module, by what it exports
abbrev pub exported_leads : Leads → Exports → List Named → Lead
exported_leads leads entries [] = nowhere
exported_leads leads entries (name ∷ names) = lead_of leads (entry_of entries name) names

-- ---- modules that can be named

-- no module, or one round this place
abbrev pub no_face : Face
no_face = record { parameters = []; outer = 0; leads = λ names. nowhere; is_constant = true }

-- a nested module that can be named, or else the file
abbrev pub face_under : (List ℕ → Face) → Option (Option Face) → List ℕ → Face
face_under files None name = files name
face_under files (Some None) name = no_face
face_under files (Some (Some face)) name = face

-- the module of a name, among those that can be named
abbrev pub face_in : (List ℕ → Face) → Scope Face → List ℕ → Face
face_in files faces name = face_under files (module_meaning faces.here name) name

-- the module that is read and those round it, with the modules that can be named
pub record Reader : Type 0 where
  pub setting : Setting
  pub round : List Setting
  pub faces : Scope Face

-- with other leads
abbrev pub leading_to : Reader → Leads → Reader
leading_to reader leads = record reader { setting = record { leads = leads; frame = reader.setting.frame; olds = reader.setting.olds } }

-- what a module is to its instances by its symbols, how many come before them, whether it is constant, and what it exports
abbrev pub face_over : Exports → ℕ → Bool → Exports → Leads → Face
face_over parameters outer is_constant entries leads = record { parameters = parameters; outer = outer; leads = exported_leads leads entries; is_constant = is_constant }

-- ---- modules that are extended

-- symbols of a module that is extended are the symbols here that mean the same
abbrev pub sharing : Leads → Exports → Replacements
sharing leads [] = Over
sharing leads (parameter ∷ parameters) = Replace (named (operator_places (Some parameter.1)) (leads parameter.1 []) Nil) None (sharing leads parameters)

-- the instance through which a module comes that is extended: it lets its symbols stand as they do here
abbrev pub extension_of : Setting → Face → Instance
extension_of setting face = Replaced (length setting.frame) 0 false (staying 0 face.outer (sharing setting.leads face.parameters))

module _ (text : Text) (means : ℕ → Option Meaning) (implied : ℕ → List Meaning) (files : List ℕ → Face) (outsides : List ℕ → Outside) (words : List ℕ) where
  -- what the module of a name brings to one that extends it
  abbrev pub entries_in : Scope Outside → Lexeme → Exports
  entries_in modules l = instantiable (exported (named_in text outsides words modules (spelled text.source l)).view)

  -- these modules are extended, one after another: all symbols stand before them
  abbrev pub extended : Scope Outside → Scope Face → Setting → Leads → List Lexeme → Leads
  extended modules faces setting leads [] = leads
  extended modules faces setting leads (l ∷ rest) =
      extended modules faces setting
      (with_brought leads (entries_in modules l) (extension_of setting (face_in files faces (spelled text.source l))) (face_in files faces (spelled text.source l))) rest

  -- behind a definition
  abbrev pub behind_definition : Reader → Tree → Reader
  behind_definition reader x = record reader { setting = behind text reader.setting x (defined_lead text means implied (face_in files reader.faces) reader.setting x) }

  -- behind an INSTANCE without a name, which brings what the state has that it brings
  abbrev pub behind_instance : KindState → Reader → Tree → Reader
  behind_instance state reader (TreeNode (Form.Instance l) s rights) =
      leading_to reader (with_brought reader.setting.leads (instance_brings text (views text outsides words) words state.read (TreeNode (Form.Instance l) s rights))
      (instance_of text means implied (face_in files reader.faces) reader.setting (length reader.setting.frame) 0 false l (rights_of text means implied (face_in files reader.faces) reader.setting rights))
      (face_in files reader.faces (spelled text.source l)))
  behind_instance state reader x = reader

  -- in a nested module with these symbols of its own, at the next places
  abbrev pub inner_setting : Setting → List Meaning → Setting
  inner_setting setting own = record { leads = with_symbols setting.leads own (length setting.frame); frame = setting.frame ++ own; olds = Nil }

  -- a nested module begins, with these symbols of its own, and then extends modules
  abbrev pub behind_begin : KindState → Reader → Lexeme → List Lexeme → List Meaning → Reader
  behind_begin state reader name extends own =
      record {
        setting =
            record {
              leads = extended (begun state.modules (spelled text.source name)) (begun reader.faces (spelled text.source name)) (inner_setting reader.setting own) (inner_setting reader.setting own).leads extends;
              frame = reader.setting.frame ++ own;
              olds = Nil;
            };
        round = reader.setting ∷ reader.round;
        faces = begun reader.faces (spelled text.source name);
      }

  -- what a nested module is to its instances at its end, by the state there
  abbrev pub nested_face : KindState → Reading → Setting → Setting → Face
  nested_face state outside setting outer =
      face_over (nested_view state.read.known outside.context (exports_of state.read.place.here.exports)).parameters (length outer.frame) false (exports_of state.read.place.here.exports) setting.leads

  -- a nested module ends
  abbrev pub behind_end : KindState → List Reading → Reader → List Setting → Reader
  behind_end state (outside ∷ readings) reader (outer ∷ round) =
      record { setting = outer; round = round; faces = ended (nested_face state outside reader.setting outer) reader.faces.here reader.faces.round }
  behind_end state readings reader round = reader

  -- behind a unit; own symbols of a nested module that begins are given
  abbrev pub behind_unit : KindState → Reader → List Meaning → UnitTree → Reader
  behind_unit state reader own (OperatorDefinition local x) = behind_definition reader x
  behind_unit state reader own (FunctionDefinition local x) = behind_definition reader x
  behind_unit state reader own (ModuleDefinition local x) = behind_definition reader x
  behind_unit state reader own (UnitInstance local x) = behind_instance state reader x
  behind_unit state reader own (ModuleBegin dashes name extends) = behind_begin state reader name extends own
  behind_unit state reader own (ModuleEnd closing) = behind_end state state.read.place.round reader reader.round
  behind_unit state reader own unit = reader

  -- behind units, one after another; for each of them its own symbols are given, which count where a nested module begins
  abbrev pub behind_units : KindState → Reader → List (List Meaning) → List UnitTree → Reader
  behind_units state reader owns [] = reader
  behind_units state reader [] (unit ∷ units) = behind_units (after text outsides words state unit) (behind_unit state reader [] unit) [] units
  behind_units state reader (own ∷ owns) (unit ∷ units) = behind_units (after text outsides words state unit) (behind_unit state reader own unit) owns units

-- ---- modules

-- symbols at places from the first on
abbrev pub symbol_setting : List Meaning → Setting
symbol_setting symbols = record { leads = with_symbols no_leads symbols 0; frame = symbols; olds = Nil }

-- own symbols of the nested modules of a module, for each of its units
abbrev pub owns_of : (List ℕ → Outside) → List ℕ → ModuleUnits → List (List Meaning)
owns_of outsides source units = own_each (text_of source units) (views (text_of source units) outsides (words_of units)) (words_of units) (first outsides source units).read units.units

-- a module with these symbols behind its units, over what it names
abbrev pub module_reader : (ℕ → Option Meaning) → (ℕ → List Meaning) → (List ℕ → Face) → (List ℕ → Outside) → List ℕ → ModuleUnits → List Meaning → Reader
module_reader means implied files outsides source units symbols =
    behind_units (text_of source units) means implied files outsides (words_of units) (first outsides source units)
    (record {
      setting = record {
        leads = extended (text_of source units) means implied files outsides (words_of units) (first_scope (text_of source units).file) (first_scope (text_of source units).file) (symbol_setting symbols) (symbol_setting symbols).leads units.extends;
        frame = symbols;
        olds = Nil;
      };
      round = [];
      faces = first_scope (text_of source units).file;
    }) (owns_of outsides source units) units.units

-- ---- what is asked of units

-- each module definition in a unit holds an INSTANCE
abbrev pub UnitHolds : UnitTree → Type 0
UnitHolds (OperatorDefinition local x) = HoldsInstances x
UnitHolds (FunctionDefinition local x) = HoldsInstances x
UnitHolds (ModuleDefinition local x) = HoldsInstances x
UnitHolds (UnitInstance local x) = HoldsInstances x
UnitHolds (Assumption word name x) = HoldsInstances x
UnitHolds (Theorem word name x) = HoldsInstances x
UnitHolds unit = Unit {0}
