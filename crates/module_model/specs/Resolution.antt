-- What the names of a module mean, what it is to others, and the faults of its names.
use Rattle.std.specs.Prelude.{ℕ, false, List, [], ◌∷◌, ◌++◌, is_some, if◌then◌else◌, map}
use Rattle.tla_symbols.specs.declared.lexeme.Lexeme.{Lexeme}
use Rattle.tla_tree.specs.declared.form.Form.TheVariants as Form
use Rattle.tla_tree.specs.Syntax.{Tree, Node}
use Rattle.unit_grammar.specs.Units.{UnitTree, Variables, Constants, OperatorDefinition, FunctionDefinition, ModuleDefinition, Instance, Assumption, Theorem, ModuleBegin, ModuleEnd, ModuleUnits}
use Rattle.tla_model.specs.declared.names.Finding.TheVariants.{InstanceClashes, Taken}
use Rattle.tla_model.specs.Entities.{Text, variables}
use Rattle.tla_model.specs.ModuleNames.{instances_from}
use Rattle.tla_model.specs.Scopes.{Finding, all_refused, definition}
use Rattle.module_model.specs.Exports.{Exports, Known, ModuleView, and_known, entries_from, exports_by, exports_of, none_known, parameters_in}
use Rattle.module_model.specs.Instances.{all_named_instances, brought_by, paths_in, unit_trees}
use Rattle.module_model.specs.Modules.{Place, Reading, all_clashing, begun, brings_clash, constants, declare_all, entered, is_named, joined, left, nested, text_of, unread}
use Rattle.module_model.specs.NamedModules.{exported_known, known_from_all, known_named, module_at, unit_of, view_of}
use Rattle.module_model.specs.TreeFindings.{Surroundings, walk}

-- ---- units

-- a module that is read, and what stands behind instances
pub record ReadState : Type 0 where
  pub place : Place
  pub known : Known

-- a module is read over files, and the words INSTANCE of its text stand before module names that begin here
module _ (text : Text) (files : List ℕ → ModuleView) (words : List ℕ) where
  -- what the module of a name is at a place
  abbrev pub module_named : ReadState → List ℕ → ModuleView
  module_named state = module_at files state.place.here.modules

  -- ---- what stands behind instances

  -- behind the instances that can be named in a unit
  abbrev pub known_in : ReadState → UnitTree → Known
  known_in state unit = and_known state.known (known_named text (module_named state) (all_named_instances (unit_trees unit)))

  -- behind those that an INSTANCE without a name brings
  abbrev pub known_brought : ReadState → Tree → Known
  known_brought state (Node (Form.Instance l) s parts) = exported_known (view_of text (module_named state) l)
  known_brought state _ = none_known

  -- ---- entries

  -- the entries that an INSTANCE without a name brings
  abbrev pub instance_brings : ReadState → Tree → Exports
  instance_brings state (Node (Form.Instance l) s parts) = brought_by (unit_of text words l) (view_of text (module_named state) l)
  instance_brings state _ = []

  -- an INSTANCE without a name that brings a clash
  abbrev pub clash_by : ReadState → Tree → List Finding
  clash_by state (Node (Form.Instance l) s parts) =
      if brings_clash state.place.here (instance_brings state (Node (Form.Instance l) s parts)) then InstanceClashes l ∷ [] else []
  clash_by state _ = []

  -- ---- behind units

  -- the module that is read, changed, with what stands behind the instances of a unit
  abbrev pub read_on : ReadState → UnitTree → Reading → ReadState
  read_on state unit reading = record state { place = record { here = reading; round = state.place.round }; known = known_in state unit }

  -- inside a nested module, behind what it extends
  abbrev pub inside_nested : ReadState → Lexeme → List Lexeme → ReadState
  inside_nested state name extends = record state { place = entered text (exports_by files) state.place name extends }

  -- with what stands behind the instances of further modules
  abbrev pub with_known : ReadState → Known → ReadState
  with_known state known = record state { known = and_known state.known known }

  -- behind a unit
  abbrev pub after : ReadState → UnitTree → ReadState
  after state (Variables names) = read_on state (Variables names) (declare_all text false state.place.here (variables names))
  after state (Constants declarations) = read_on state (Constants declarations) (declare_all text false state.place.here (constants declarations))
  after state (OperatorDefinition local x) = read_on state (OperatorDefinition local x) (declare_all text (is_some local) state.place.here (definition x))
  after state (FunctionDefinition local x) = read_on state (FunctionDefinition local x) (declare_all text (is_some local) state.place.here (definition x))
  after state (ModuleDefinition local x) = read_on state (ModuleDefinition local x) (declare_all text (is_some local) state.place.here (definition x))
  after state (Instance local x) = with_known (read_on state (Instance local x) (joined (is_some local) state.place.here (instance_brings state x))) (known_brought state x)
  after state (ModuleBegin dashes name extends) = with_known (inside_nested state name extends) (known_from_all text (module_named (inside_nested state name extends)) extends)
  after state (ModuleEnd closing) =
      record state { place = left state.known state.place.here state.place.round }
  after state unit = read_on state unit state.place.here

  -- behind these units
  abbrev pub read_all : ReadState → List UnitTree → ReadState
  read_all state [] = state
  read_all state (unit ∷ units) = read_all (after state unit) units

  -- what is found, by where paths begin
  module _ (paths : List ℕ) where
    -- what is known round a unit
    abbrev pub surround : ReadState → UnitTree → Surroundings
    surround state unit = record { named = module_named state; known = known_in state unit; paths = paths }

    -- what is found in the tree of a unit
    abbrev pub found_of : ReadState → UnitTree → Tree → List Finding
    found_of state unit x = walk text (surround state unit) state.place.here.context x

    -- what is found in a unit, in the order of the text
    abbrev pub found_in : ReadState → UnitTree → List Finding
    found_in state (Variables names) = all_refused text state.place.here.context (variables names)
    found_in state (Constants declarations) = all_refused text state.place.here.context (constants declarations)
    found_in state (OperatorDefinition local x) = found_of state (OperatorDefinition local x) x
    found_in state (FunctionDefinition local x) = found_of state (FunctionDefinition local x) x
    found_in state (ModuleDefinition local x) = found_of state (ModuleDefinition local x) x
    found_in state (Instance local x) = found_of state (Instance local x) x ++ clash_by state x
    found_in state (Assumption word name x) = found_of state (Assumption word name x) x
    found_in state (Theorem word name x) = found_of state (Theorem word name x) x
    found_in state (ModuleBegin dashes name extends) =
        (if is_named text state.place.here name then Taken name ∷ [] else []) ++ all_clashing text (exports_by files) (nested text state.place.here name) extends
    found_in state _ = []

    -- what is found in these units, in the order of the text
    abbrev pub found_from : ReadState → List UnitTree → List Finding
    found_from state [] = []
    found_from state (unit ∷ units) = found_in state unit ++ found_from (after state unit) units

-- ---- modules

-- where the module names behind INSTANCE begin
abbrev pub words_of : ModuleUnits → List ℕ
words_of units = map (λ l. l.span.start) (instances_from units.units)

module _ (files : List ℕ → ModuleView) (source : List ℕ) (units : ModuleUnits) where
  -- the text of the module
  abbrev pub text : Text
  text = text_of source units

  -- behind what it extends, with nothing behind instances as yet
  abbrev pub begun_state : ReadState
  begun_state = record { place = begun text (exports_by files) units.extends; known = none_known }

  -- behind what it extends
  abbrev pub first : ReadState
  first = with_known text files (words_of units) begun_state (known_from_all text (module_named text files (words_of units) begun_state) units.extends)

  -- behind all its units
  abbrev pub last : ReadState
  last = read_all text files (words_of units) first units.units

  -- what is found in a module, by what the files are that its names mean
  abbrev pub findings : List Finding
  findings =
      all_clashing text (exports_by files) (unread text) units.extends
      ++ found_from text files (words_of units) (paths_in units.units) first units.units

  -- what it exports
  abbrev pub exports_in : Exports
  exports_in = exports_of last.place.here.exports

  -- what it is to others
  abbrev pub outside_in : ModuleView
  outside_in = record { entries = entries_from last.known exports_in; parameters = parameters_in exports_in }
