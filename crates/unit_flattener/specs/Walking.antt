-- Where a module is walked in code, as the definitions have it.
use Rattle.indexmap.specs.IndexMap.{get_by_text}
use Rattle.std.specs.Prelude.{◌≡◌, ◌<◌, ℕ, List, [], ◌∷◌, Option, IfSome, length, reverse}
use Rattle.unit_grammar.specs.Units.{ModuleUnits, UnitTree}
use Rattle.tla_model.specs.Entities.{Meaning, Text}
use Rattle.module_scope.specs.Environments.{Scope}
use Rattle.module_model.specs.Exports.{files_of}
use Rattle.module_model.specs.Imports.{Imports}
use Rattle.module_model.specs.Modules.{Reading, text_of}
use Rattle.model_laws.specs.Settled.{IsSettled}
use Rattle.tree_kinds.specs.Standing.{Outside}
use Rattle.module_kinds.specs.ModuleKinds.{KindState}
use Rattle.flattened_trees.specs.Leads.{FlatFace, Leads, Setting}
use Rattle.flattened_units.specs.Units.{Reader, no_leads}
use Rattle.accepted_modules.specs.States.{kinds_behind}
use Rattle.tree_flattener.specs.Worlds.{World, frame_at, implied_of, means_of}
use Rattle.tree_flattener.specs.declared.written.Written.{Written}
use Rattle.module_leads.specs.Leading.{Leading, leading_in}
use Rattle.module_leads.specs.Leading as leading
use Rattle.module_leads.specs.There.{AllLeadWithin}
use Rattle.unit_scope.specs.EnclosingReadings.{IsAt}
use Rattle.unit_scope.specs.Readings.{Over, files_over}
use Rattle.unit_scope.specs.Steps.{over_for}
use Rattle.own_symbols.specs.Ahead.{Owned, own_ahead}
use Rattle.unit_flattener.specs.Ahead.{AreOwned}
use Rattle.unit_flattener.specs.Numbers.{AreBelow, KeepsFaces, faces_in, file_faces, number_of, scope_faces}
use Rattle.unit_flattener.specs.Scopes.{IsKept}
use Rattle.unit_flattener.specs.declared.flattener.UnitFlattener.{UnitFlattener}

-- a module, its imports, what these are to their instances, what stands for their names, and what was known before the module
pub record Walk : Type 0 where
  pub imports : Imports
  pub source : List ℕ
  pub units : ModuleUnits
  pub files : List ℕ → FlatFace
  pub outsides : List ℕ → Outside
  pub known : Leading

-- what it is read over
abbrev pub over_in : Walk → Over
over_in walk = over_for walk.imports walk.units

-- the state behind these of its units
abbrev pub state_at : Walk → List UnitTree → KindState
state_at walk before = kinds_behind walk.outsides walk.source walk.units before

-- the own symbols of nested modules by those of its units that are ahead
abbrev pub ahead : Walk → List UnitTree → List UnitTree → Owned
ahead walk before rest = own_ahead (text_of walk.source walk.units) (files_over (over_in walk)) (over_in walk).words (state_at walk before).read rest

-- the numbers of the faces of files
abbrev pub files_in : UnitFlattener → List ℕ → Option ℕ
files_in code name = get_by_text code.files.now name

-- the number of the face of the module of a name where code walks
abbrev pub face_number : UnitFlattener → List ℕ → Option ℕ
face_number code name = number_of (files_in code) code.modules.here name

-- what is known round a tree where code walks
abbrev pub world_at : Written → UnitFlattener → World
world_at written code =
    record {
      text = written.text.now;
      nodes = written.tree.now;
      means = means_of written;
      implied = implied_of written;
      leads = (leading_in code.leads).leads;
      faces = faces_in (leading_in code.leads).faces (files_in code) code.modules.here;
    }

-- ---- settings

-- a setting has the frame with a number, names lead there, and nothing is repeated
pub record IsSettingOf (frames : List (List Meaning)) (number : ℕ) (leads : Leads) (setting : Setting) : Type 0 where
  pub there : number < length frames
  pub framed : setting.frame ≡ frame_at frames number
  pub lead : setting.leads ≡ leads
  pub olds : setting.olds ≡ []

-- so do those round the place, as many as there are modules, the innermost first; and nothing is known round them
abbrev pub AreSettingsOf : List (List Meaning) → List ℕ → List Leads → List Reading → List Setting → Type 0
AreSettingsOf frames [] (leads ∷ []) [] [] = leads ≡ no_leads
AreSettingsOf frames (number ∷ numbers) (leads ∷ round) (reading ∷ readings) (setting ∷ settings) =
    IsSettingOf frames number leads setting × AreSettingsOf frames numbers round readings settings
AreSettingsOf frames numbers round readings settings = ⊥

-- ---- numbers

-- faces of files and of nested modules that have ended are there
pub record AreNumbered (code : UnitFlattener) : Type 0 where
  pub files : (name : List ℕ) → IfSome (files_in code name) (λ number. number < (leading_in code.leads).count)
  pub nested : AreBelow (leading_in code.leads).count code.modules.here

-- ---- places

-- code walks behind these units of a module, before those, where the reader of the definitions is this one
pub record IsWalking (text : Text) (walk : Walk) (before rest : List UnitTree) (code : UnitFlattener) (reader : Reader) : Type 0 where
  pub same : text ≡ text_of walk.source walk.units
  pub views : (λ name. (walk.outsides name).view) ≡ files_of walk.imports
  pub reads : IsAt text (over_in walk) code.reader (state_at walk before).read
  pub settled : IsSettled (state_at walk before).read
  pub setting : IsSettingOf code.state.frames.items code.frame (leading_in code.leads).leads reader.setting
  pub round : AreSettingsOf code.state.frames.items (reverse code.round.items) (leading_in code.leads).round (state_at walk before).read.place.round reader.round
  pub names : Scope ℕ
  pub kept : IsKept code.modules names
  pub faces : reader.faces ≡ scope_faces (leading_in code.leads).faces names
  pub files : walk.files ≡ file_faces (leading_in code.leads).faces (files_in code)
  pub numbered : AreNumbered code
  pub earlier : KeepsFaces walk.known (leading_in code.leads)
  pub begun : reverse code.own.items ≡ (ahead walk before rest).begun
  pub owned : AreOwned (ahead walk before rest).round reader.setting reader.round
  pub sound : leading.IsSound code.leads
  pub within : AllLeadWithin code.state.flat (leading_in code.leads)
  pub locals : code.state.locals.items ≡ []

-- code walks somewhere before these units
pub record IsBefore (text : Text) (units : List UnitTree) (code : UnitFlattener) : Type 0 where
  pub walk : Walk
  pub before : List UnitTree
  pub reader : Reader
  pub at : IsWalking text walk before units code reader

-- code walks somewhere before this unit
pub record IsAtUnit (text : Text) (unit : UnitTree) (code : UnitFlattener) : Type 0 where
  pub rest : List UnitTree
  pub before : IsBefore text (unit ∷ rest) code

-- code walks somewhere
pub record IsWithinUnits (text : Text) (code : UnitFlattener) : Type 0 where
  pub rest : List UnitTree
  pub before : IsBefore text rest code
