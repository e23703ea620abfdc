-- What the names of a module stand for, unit by unit; what it is to those that name it; and its faults of depth and of levels.
use Rattle.std.specs.Prelude.{ℕ, Bool, true, false, ◌&&◌, List, [], ◌∷◌, ◌++◌, Option, Some, None, if◌then◌else◌, nat_eq}
use Rattle.tla_symbols.specs.declared.lexeme.Lexeme.{Lexeme}
use Rattle.tla_tree.specs.declared.form.Form.TheVariants as Form
use Rattle.tla_tree.specs.Syntax.{Tree, Node}
use Rattle.unit_grammar.specs.Units.{UnitTree, OperatorDefinition, FunctionDefinition, ModuleDefinition, Instance, Assumption, Theorem, ModuleBegin, ModuleEnd, ModuleUnits}
use Rattle.tla_model.specs.declared.Diagnostic.{Diagnostic}
use Rattle.tla_model.specs.declared.entity.Level.{Level}
use Rattle.tla_model.specs.Entities.{Text}
use Rattle.tla_model.specs.Lexemes.{spelled}
use Rattle.module_scope.specs.Environments.{Scope, begun, ended, meaning, first as first_scope}
use Rattle.module_model.specs.Bindings.{fault_at}
use Rattle.module_model.specs.Exports.{Known, ModuleView, exported, exports_of, instantiable, nothing}
use Rattle.module_model.specs.Instances.{nested_view}
use Rattle.module_model.specs.Modules.{Reading, text_of}
use Rattle.module_model.specs.Resolution.{ReadState, instance_brings, known_in, outside_in, words_of, after as read_after, first as first_read}
use Rattle.kind_text.specs.ExpandedKind.{Given, Operands}
use Rattle.tree_kinds.specs.Standing.{Environment, Outside, along_entries, themselves, with_entries}
use Rattle.tree_kinds.specs.Expanding.{Around, behind_tree, bringing}
use Rattle.tree_kinds.specs.TreeLevels.{LevelFinding, Refused, NotConstant, TooHigh, Leveled, assumed, levels}
use Rattle.tree_kinds.specs.TreeDepths.{Beneath, Depths, behind_depth, deep_names, deeper, defined_depth, depth, depths_along, is_too_deep, no_depths, replaced_depth, with_entry_depths}
use Rattle.module_kinds.specs.Constancy.{extends_constant, is_constant_unit}

-- a module that is not there, or not accepted
abbrev pub nowhere : Outside
nowhere = record { view = nothing; standing = λ standing path. Given None; depths = λ path. record { depth = 0; replaced = 0 }; is_constant = true }

-- a nested module that can be named, or else the file; the name of a module round this place means none
abbrev pub module_under : (List ℕ → Outside) → Option (Option Outside) → List ℕ → Outside
module_under files None name = files name
module_under files (Some None) name = nowhere
module_under files (Some (Some outside)) name = outside

-- a module that is read: its names; what stands for these, by what stands for its parameters; how deep that is; the
-- modules that can be named; and whether nothing so far goes beyond constants
pub record KindState : Type 0 where
  pub read : ReadState
  pub standing : Environment → Environment
  pub depths : Depths
  pub modules : Scope Outside
  pub is_constant : Bool

-- no nested module is being read
abbrev pub is_outermost : List Reading → Bool
is_outermost [] = true
is_outermost (outer ∷ round) = false

-- what a module is to those that name it: its names, and what stands for its exports behind its units
abbrev pub outside_by : ModuleView → Bool → KindState → Outside
outside_by view constant state =
    record {
      view = view;
      standing = λ parameters path. along_entries (state.standing parameters) (exports_of state.read.place.here.exports) path;
      depths = λ path. depths_along state.depths (exports_of state.read.place.here.exports) path;
      is_constant = constant;
    }

-- the same of a nested module, which counts as not constant
abbrev pub nested_outside : KindState → List Reading → Outside
nested_outside state [] = nowhere
nested_outside state (outer ∷ round) = outside_by (nested_view state.read.known outer.context (exports_of state.read.place.here.exports)) false state

-- the same of a module of a file
abbrev pub file_outside : ModuleView → KindState → Outside
file_outside view state = outside_by view state.is_constant state

-- a module is read over files, and the words INSTANCE of its text stand before module names that begin here
module _ (text : Text) (files : List ℕ → Outside) (words : List ℕ) where
  -- the names of the files
  abbrev pub views : List ℕ → ModuleView
  views name = (files name).view

  -- the module of a name, among those that can be named
  abbrev pub named_in : Scope Outside → List ℕ → Outside
  named_in modules name = module_under files (meaning modules.here name) name

  -- the module of a name
  abbrev pub named : KindState → List ℕ → Outside
  named state = named_in state.modules

  -- what is known to stand behind the instances of a unit
  abbrev pub known_at : KindState → UnitTree → Known
  known_at state unit = known_in text views words state.read unit

  -- round the expressions of a unit, by what stands for parameters of the module
  abbrev pub around : KindState → Environment → Around
  around state standing = record { context = state.read.place.here.context; standing = state.standing standing; old = Operands.Nil }

  -- the same, for depths
  abbrev pub beneath : KindState → Beneath
  beneath state = record { context = state.read.place.here.context; depths = state.depths }

  -- ---- behind units

  -- with what the modules of these names define
  abbrev pub extended : Scope Outside → Environment → Environment → List Lexeme → Environment
  extended modules parameters standing [] = standing
  extended modules parameters standing (l ∷ rest) =
      extended modules parameters
      (with_entries standing (instantiable (exported (named_in modules (spelled text.source l)).view)) ((named_in modules (spelled text.source l)).standing parameters)) rest

  -- the same, for depths
  abbrev pub extended_depths : Scope Outside → Depths → List Lexeme → Depths
  extended_depths modules depths [] = depths
  extended_depths modules depths (l ∷ rest) =
      extended_depths modules
      (with_entry_depths depths (instantiable (exported (named_in modules (spelled text.source l)).view)) (named_in modules (spelled text.source l)).depths) rest

  -- with what a definition gives
  abbrev pub with_definition : KindState → UnitTree → Tree → Environment → Environment
  with_definition state unit x parameters = (behind_tree text (known_at state unit) (named state) (around state parameters) x).standing

  -- with what an INSTANCE without a name brings: no guards, the replacements put in
  abbrev pub with_instance : KindState → UnitTree → Tree → Environment → Environment
  with_instance state unit x parameters =
      bringing text (known_at state unit) (named state) (around state parameters) (instance_brings text views words state.read x) x

  -- what stands for the names behind a unit
  abbrev pub standing_behind : KindState → UnitTree → Environment → Environment
  standing_behind state (OperatorDefinition local x) parameters = with_definition state (OperatorDefinition local x) x parameters
  standing_behind state (FunctionDefinition local x) parameters = with_definition state (FunctionDefinition local x) x parameters
  standing_behind state (ModuleDefinition local x) parameters = with_definition state (ModuleDefinition local x) x parameters
  standing_behind state (Instance local x) parameters = with_instance state (Instance local x) x parameters
  standing_behind state (ModuleBegin dashes name extends) parameters = extended (begun state.modules (spelled text.source name)) parameters (state.standing parameters) extends
  standing_behind state unit parameters = state.standing parameters

  -- with the depth of a definition
  abbrev pub with_defined : KindState → UnitTree → Tree → Depths
  with_defined state unit x =
      (behind_depth text (known_at state unit) (named state) (beneath state) x (defined_depth text (known_at state unit) (named state) (beneath state) x)).depths

  -- with the depths of what an INSTANCE without a name brings: its replacements are on the path, where it has any
  abbrev pub with_brought : KindState → UnitTree → Tree → Depths
  with_brought state unit (Node (Form.Instance l) s parts) =
      with_entry_depths state.depths (instance_brings text views words state.read (Node (Form.Instance l) s parts))
      (λ path. deeper (replaced_depth text (known_at state unit) (named state) (beneath state) (Node (Form.Instance l) s parts)) ((named state (spelled text.source l)).depths path))
  with_brought state unit x = state.depths

  -- how deep what stands for the names behind a unit is
  abbrev pub depths_behind : KindState → UnitTree → Depths
  depths_behind state (OperatorDefinition local x) = with_defined state (OperatorDefinition local x) x
  depths_behind state (FunctionDefinition local x) = with_defined state (FunctionDefinition local x) x
  depths_behind state (ModuleDefinition local x) = with_defined state (ModuleDefinition local x) x
  depths_behind state (Instance local x) = with_brought state (Instance local x) x
  depths_behind state (ModuleBegin dashes name extends) = extended_depths (begun state.modules (spelled text.source name)) state.depths extends
  depths_behind state unit = state.depths

  -- the modules that can be named behind a unit
  abbrev pub modules_behind : KindState → UnitTree → Scope Outside
  modules_behind state (ModuleBegin dashes name extends) = begun state.modules (spelled text.source name)
  modules_behind state (ModuleEnd closing) = ended (nested_outside state state.read.place.round) state.modules.here state.modules.round
  modules_behind state unit = state.modules

  -- whether nothing goes beyond constants behind a unit; those of nested modules do not count
  abbrev pub constant_behind : KindState → UnitTree → Bool
  constant_behind state unit = if is_outermost state.read.place.round then state.is_constant && is_constant_unit text.source (named state) unit else state.is_constant

  -- behind a unit
  abbrev pub after : KindState → UnitTree → KindState
  after state unit =
      record {
        read = read_after text views words state.read unit;
        standing = standing_behind state unit;
        depths = depths_behind state unit;
        modules = modules_behind state unit;
        is_constant = constant_behind state unit;
      }

  -- behind these units
  abbrev pub read_all : KindState → List UnitTree → KindState
  read_all state [] = state
  read_all state (unit ∷ units) = read_all (after state unit) units

  -- ---- what is found

  -- what is found of levels in the tree of a unit, its parameters by themselves
  abbrev pub found_of : KindState → UnitTree → Tree → List LevelFinding
  found_of state unit x = levels text (known_at state unit) (named state) (around state themselves) x

  -- what is found of levels in a unit
  abbrev pub found_in : KindState → UnitTree → List LevelFinding
  found_in state (OperatorDefinition local x) = found_of state (OperatorDefinition local x) x
  found_in state (FunctionDefinition local x) = found_of state (FunctionDefinition local x) x
  found_in state (ModuleDefinition local x) = found_of state (ModuleDefinition local x) x
  found_in state (Instance local x) = found_of state (Instance local x) x
  found_in state (Assumption word name x) =
      found_of state (Assumption word name x) x ++ assumed text (known_at state (Assumption word name x)) (named state) (around state themselves) x
  found_in state (Theorem word name x) = found_of state (Theorem word name x) x
  found_in state unit = []

  -- the same of several units
  abbrev pub found_from : KindState → List UnitTree → List LevelFinding
  found_from state [] = []
  found_from state (unit ∷ units) = found_in state unit ++ found_from (after state unit) units

  -- the first word of an assumption or a theorem that is too deep
  abbrev pub deep_word : KindState → UnitTree → Lexeme → Tree → List Lexeme
  deep_word state unit word x = if is_too_deep (depth text (known_at state unit) (named state) (beneath state) x) then word ∷ [] else []

  -- where a definition of a tree is too deep
  abbrev pub deep_of : KindState → UnitTree → Tree → List Lexeme
  deep_of state unit x = deep_names text (known_at state unit) (named state) (beneath state) x

  -- where what is written in a unit is too deep
  abbrev pub deep_in : KindState → UnitTree → List Lexeme
  deep_in state (OperatorDefinition local x) = deep_of state (OperatorDefinition local x) x
  deep_in state (FunctionDefinition local x) = deep_of state (FunctionDefinition local x) x
  deep_in state (ModuleDefinition local x) = deep_of state (ModuleDefinition local x) x
  deep_in state (Instance local x) = deep_of state (Instance local x) x
  deep_in state (Assumption word name x) = deep_word state (Assumption word name x) word x ++ deep_of state (Assumption word name x) x
  deep_in state (Theorem word name x) = deep_word state (Theorem word name x) word x ++ deep_of state (Theorem word name x) x
  deep_in state unit = []

  -- the same of several units
  abbrev pub deep_from : KindState → List UnitTree → List Lexeme
  deep_from state [] = []
  deep_from state (unit ∷ units) = deep_in state unit ++ deep_from (after state unit) units

-- ---- modules

module _ (files : List ℕ → Outside) (source : List ℕ) (units : ModuleUnits) where
  -- the text of the module
  abbrev pub text : Text
  text = text_of source units

  -- behind what it extends
  abbrev pub first : KindState
  first =
      record {
        read = first_read (views text files (words_of units)) source units;
        standing = λ parameters. extended text files (words_of units) (first_scope text.file) parameters parameters units.extends;
        depths = extended_depths text files (words_of units) (first_scope text.file) no_depths units.extends;
        modules = first_scope text.file;
        is_constant = extends_constant source (named_in text files (words_of units) (first_scope text.file)) units.extends;
      }

  -- behind all its units
  abbrev pub last : KindState
  last = read_all text files (words_of units) first units.units

  -- what is found of levels, in the order of the text
  abbrev pub level_findings : List LevelFinding
  level_findings = found_from text files (words_of units) first units.units

  -- where what is written is too deep
  abbrev pub too_deep : List Lexeme
  too_deep = deep_from text files (words_of units) first units.units

  -- what it is to those that name it
  abbrev pub outside : Outside
  outside = file_outside (outside_in (views text files (words_of units)) source units) last

-- ---- faults

-- a finding as a fault; the level of a use is none
abbrev pub level_fault : LevelFinding → List Diagnostic
level_fault (Refused at) = record { code = 601; span = at } ∷ []
level_fault (NotConstant at) = record { code = 602; span = at } ∷ []
level_fault (TooHigh at) = record { code = 603; span = at } ∷ []
level_fault (Leveled l level) = []

-- the faults among findings, in their order
abbrev pub level_faults : List LevelFinding → List Diagnostic
level_faults [] = []
level_faults (finding ∷ rest) = level_fault finding ++ level_faults rest

-- the faults of depth, by where what is too deep stands
abbrev pub depth_faults : List Lexeme → List Diagnostic
depth_faults [] = []
depth_faults (l ∷ rest) = fault_at 106 l ++ depth_faults rest

-- all of depth, or else all of levels
abbrev pub or_levels : List Diagnostic → List Diagnostic → List Diagnostic
or_levels [] others = others
or_levels (fault ∷ rest) others = fault ∷ rest

-- the faults of depth of a module, or else those of levels, by what the files are that it names
abbrev pub kind_faults : (List ℕ → Outside) → List ℕ → ModuleUnits → List Diagnostic
kind_faults files source units = or_levels (depth_faults (too_deep files source units)) (level_faults (level_findings files source units))

-- the level of the use that begins here
abbrev pub level_of : List LevelFinding → ℕ → Level
level_of [] start = Level.Constant
level_of (Leveled l level ∷ rest) start = if nat_eq l.span.start start then level else level_of rest start
level_of (_ ∷ rest) start = level_of rest start
