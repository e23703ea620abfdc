-- Modules that are read, unit by unit: their contexts, and what they export.
use Rattle.std.specs.Prelude.{ℕ, Bool, true, false, not, ◌||◌, List, [], ◌∷◌, ◌++◌, Option, Some, None, if◌then◌else◌, map}
use Rattle.tla_symbols.specs.declared.lexeme.Lexeme.{Lexeme}
use Rattle.tla_tree.specs.Syntax.{Trees}
use Rattle.unit_grammar.specs.Units.{ModuleUnits}
use Rattle.tla_model.specs.declared.names.Finding.TheVariants.{Clashes}
use Rattle.tla_model.specs.declared.names.Binder.{Binder}
use Rattle.tla_model.specs.declared.names.Binding.TheVariants as as_binding
use Rattle.tla_model.specs.Tables.{Table, Named, empty, find, has, put}
use Rattle.tla_model.specs.Entities.{Meaning, Text, meant, name_of, same_meaning, all_placed, bound_as, declaring}
use Rattle.tla_model.specs.Lexemes.{spelled}
use Rattle.tla_model.specs.Contexts.{Context, built_in}
use Rattle.module_model.specs.Exports.{Exports, Known, ModuleView, exported, exports_of}
use Rattle.module_model.specs.Instances.{nested_view}
use Rattle.tla_model.specs.Scopes.{Finding}
use Rattle.module_scope.specs.Environments.{Environment, behind, inside, is_taken, meaning, outermost}

-- a module that is read: its name, its context, what it exports so far, and the modules that can be named there, with what
-- nested ones are to those that name them
pub record Reading : Type 0 where
  pub name : List ℕ
  pub context : Context
  pub exports : Table Meaning
  pub modules : Environment ModuleView

-- the name is there with another meaning
abbrev pub differs : Option (Option Meaning) → Meaning → Bool
differs None meaning = false
differs (Some None) meaning = true
differs (Some (Some other)) meaning = not (same_meaning other meaning)

-- the entry's name is there with another meaning than that of the entry
abbrev pub clashes : Context → Named × Meaning → Bool
clashes context entry = differs (find context entry.0) entry.1

-- the module with one more entry that it may export
abbrev pub with_entry : Bool → Reading → Named → Meaning → Reading
with_entry local reading name meaning =
    record reading { context = put reading.context name (Some meaning); exports = if local then reading.exports else put reading.exports name meaning }

-- the module with the entries that another one brings, which it exports where no LOCAL brings them
abbrev pub joined : Bool → Reading → Exports → Reading
joined local reading [] = reading
joined local reading (entry ∷ rest) = joined local (if clashes reading.context entry then reading else with_entry local reading entry.0 entry.1) rest

-- the module with the entries that a module which it extends brings
abbrev pub extended : Reading → Exports → Reading
extended reading entries = joined false reading entries

-- some entry that is brought clashes with those before
abbrev pub brings_clash : Reading → Exports → Bool
brings_clash reading [] = false
brings_clash reading (entry ∷ rest) = clashes reading.context entry || brings_clash (if clashes reading.context entry then reading else with_entry false reading entry.0 entry.1) rest

-- what the nested module of a name exports, or else the file
abbrev pub exports_under : (List ℕ → Exports) → Option (Option ModuleView) → List ℕ → Exports
exports_under files None name = files name
exports_under files (Some None) name = []
exports_under files (Some (Some view)) name = exported view

-- the constants that a CONSTANT declares
abbrev pub constants : Trees → List Binder
constants declarations = bound_as as_binding.Constant (all_placed declarations)

-- the innermost module that is read, and those round it
pub record Place : Type 0 where
  pub here : Reading
  pub round : List Reading

-- a nested module of this title before what it extends: it begins with the context round it
abbrev pub begun_in : Reading → List ℕ → Reading
begun_in reading title = record { name = title; context = reading.context; exports = empty; modules = inside reading.modules title }

-- a module behind one that is nested in it, which can be named unless its name is taken
abbrev pub behind_nested : Known → Reading → Reading → Reading
behind_nested known inner outer = record outer { modules = behind outer.modules inner.name (nested_view known outer.context (exports_of inner.exports)) }

-- behind the innermost module, by what stands behind instances
abbrev pub left : Known → Reading → List Reading → Place
left known inner [] = record { here = inner; round = [] }
left known inner (outer ∷ round) = record { here = behind_nested known inner outer; round = round }

module _ (text : Text) where
  -- a declaration or a definition of the module; LOCAL ones are not exported
  abbrev pub declare : Bool → Reading → Binder → Reading
  declare local reading binder =
      if has reading.context (name_of text.source binder.name) then reading
      else with_entry local reading (name_of text.source binder.name) (meant text binder)

  -- the module with all of these declarations, in their order
  abbrev pub declare_all : Bool → Reading → List Binder → Reading
  declare_all local reading [] = reading
  declare_all local reading (binder ∷ rest) = declare_all local (declare local reading binder) rest

  -- a nested module may not have the name of one round it or of one that can be named
  abbrev pub is_named : Reading → Lexeme → Bool
  is_named reading name = is_taken reading.modules (spelled text.source name)

  -- a nested module before what it extends
  abbrev pub nested : Reading → Lexeme → Reading
  nested reading name = begun_in reading (spelled text.source name)

  -- a module before what it extends
  abbrev pub unread : Reading
  unread = record { name = text.file; context = built_in; exports = empty; modules = outermost text.file }

module _ (text : Text) (files : List ℕ → Exports) where
  -- what the module of a name exports to one that extends it
  abbrev pub brings : Reading → Lexeme → Exports
  brings reading l = exports_under files (meaning reading.modules (spelled text.source l)) (spelled text.source l)

  -- the module behind all modules that it extends, in the order of the text
  abbrev pub extends_all : Reading → List Lexeme → Reading
  extends_all reading [] = reading
  extends_all reading (l ∷ rest) = extends_all (extended reading (brings reading l)) rest

  -- the modules that it extends and that bring a clash with what stands before them
  abbrev pub all_clashing : Reading → List Lexeme → List Finding
  all_clashing reading [] = []
  all_clashing reading (l ∷ rest) =
      (if brings_clash reading (brings reading l) then Clashes l ∷ [] else []) ++ all_clashing (extended reading (brings reading l)) rest

  -- inside a nested module, behind what it extends
  abbrev pub entered : Place → Lexeme → List Lexeme → Place
  entered place name extends = record { here = extends_all (nested text place.here name) extends; round = place.here ∷ place.round }

  -- the module of the text behind what it extends
  abbrev pub begun : List Lexeme → Place
  begun extends = record { here = extends_all (unread text) extends; round = [] }

-- a source with the name of its module and the places of its declaring names
abbrev pub text_of : List ℕ → ModuleUnits → Text
text_of source units =
    record { file = spelled source units.name; source = source; starts = map (λ binder. binder.name.span.start) (declaring units.units) }
