-- What is found of a module, and what it is to others, by what the modules are that it names.
use Rattle.std.specs.Prelude.{ℕ, List, [], ◌∷◌, ◌++◌, Option, Some, None, map}
use Rattle.tla_symbols.specs.declared.lexeme.Lexeme.{Lexeme}
use Rattle.tla_model.specs.declared.Diagnostic.{Diagnostic}
use Rattle.tla_model.specs.declared.entity.Decl.{Decl}
use Rattle.tla_model.specs.declared.entity.Use.{Use}
use Rattle.module_model.specs.declared.face.Face.{Face}
use Rattle.module_model.specs.declared.imported.Import.{Import}
use Rattle.module_model.specs.Bindings.{fault_at, decls, faults, resolved}
use Rattle.tla_model.specs.Entities.{declaring}
use Rattle.module_model.specs.Exports.{ModuleView, face_outside, nothing}
use Rattle.module_model.specs.Imports.{Imports, import_of}
use Rattle.tla_model.specs.Lexemes.{spelled}
use Rattle.module_model.specs.Modules.{text_of}
use Rattle.module_model.specs.Resolution.{findings, outside_in}
use Rattle.module_graph.specs.Imports.{enclosing_of, imports_of}
use Rattle.unit_grammar.specs.Units.{ModuleUnits}
use Rattle.std.specs.Arc.{arc_value}
use Rattle.arity_rules.specs.Arities.{arity_faults}
use Rattle.tla_model.specs.Scopes.{Finding}
use Rattle.module_facts.specs.Ordered.{in_order}

-- what a module is to one that names it
pub data ImportStatus : Type 0 where
  Unknown : ImportStatus
  Cyclic : ImportStatus
  Refused : ImportStatus
  Accepted : (outside : ModuleView) → ImportStatus

-- what a module is by its import; without one it is unknown
abbrev pub given_by : Option Import → ImportStatus
given_by None = Unknown
given_by (Some Import.Unknown) = Unknown
given_by (Some Import.Cyclic) = Cyclic
given_by (Some Import.Refused) = Refused
given_by (Some (Import.Module face)) = Accepted (face_outside (arc_value face))

-- what the modules are that are imported under their names
abbrev pub given_in : Imports → List ℕ → ImportStatus
given_in imports name = given_by (import_of imports name)

-- ---- faults of imports

-- the fault at the name of a module that is not accepted
abbrev pub import_fault : ImportStatus → Lexeme → List Diagnostic
import_fault Unknown l = fault_at 301 l
import_fault Cyclic l = fault_at 302 l
import_fault Refused l = fault_at 303 l
import_fault (Accepted outside) l = []

-- the same of several names, in their order
abbrev pub faults_of_imports : (List ℕ → ImportStatus) → List ℕ → List Lexeme → List Diagnostic
faults_of_imports given source [] = []
faults_of_imports given source (l ∷ rest) = import_fault (given (spelled source l)) l ++ faults_of_imports given source rest

-- at each of these names the fault of a cyclic import
abbrev pub cyclic_at : List Lexeme → List Diagnostic
cyclic_at [] = []
cyclic_at (l ∷ rest) = fault_at 302 l ++ cyclic_at rest

-- at the names of modules that are not accepted, and of nested modules round them
abbrev pub import_faults : (List ℕ → ImportStatus) → List ℕ → ModuleUnits → List Diagnostic
import_faults given source units = faults_of_imports given source (imports_of source units) ++ cyclic_at (enclosing_of source units)

-- ---- the check

-- what an accepted module is to others; another one is nothing to them
abbrev pub outside_by : ImportStatus → ModuleView
outside_by (Accepted outside) = outside
outside_by _ = nothing

-- the same of the modules of all names
abbrev pub files_given : (List ℕ → ImportStatus) → List ℕ → ModuleView
files_given given name = outside_by (given name)

-- all faults of imports, or else all others
abbrev pub or_others : List Diagnostic → List Diagnostic → List Diagnostic
or_others [] others = others
or_others (fault ∷ rest) others = fault ∷ rest

-- the faults of names, by what is found at them, and those of arities
abbrev pub name_faults : List Finding → ModuleUnits → List Diagnostic
name_faults found units = faults found ++ arity_faults found units.units

-- what is at fault in a module, by what the modules are that it names
abbrev pub all_faults : (List ℕ → ImportStatus) → List ℕ → ModuleUnits → List Diagnostic
all_faults given source units = or_others (import_faults given source units) (name_faults (findings (files_given given) source units) units)

-- uses and declarations, but for a module with faults of imports
abbrev pub unless_any : {A : Type 0} → List Diagnostic → List A → List A
unless_any [] items = items
unless_any (fault ∷ rest) items = []

-- the uses of names in a module, each with its declaration
abbrev pub all_uses : (List ℕ → ImportStatus) → List ℕ → ModuleUnits → List Use
all_uses given source units = unless_any (import_faults given source units) (map (λ r. r.«use») (resolved (findings (files_given given) source units)))

-- the declarations of a module's text
abbrev pub all_decls : (List ℕ → ImportStatus) → List ℕ → ModuleUnits → List Decl
all_decls given source units = unless_any (import_faults given source units) (decls (text_of source units) (declaring units.units))

-- a module that was checked
pub record CheckedModule : Type 0 where
  pub faults : List Diagnostic
  pub uses : List Use
  pub decls : List Decl
  pub face : Face

-- what is found of a module: what is at fault, its uses and declarations, and what it is to others, if it is accepted
pub record ModuleFacts : Type 0 where
  pub faults : List Diagnostic
  pub uses : List Use
  pub decls : List Decl
  pub outside : Option ModuleView

-- what a module is to others where nothing is at fault
abbrev pub if_accepted : List Diagnostic → ModuleView → Option ModuleView
if_accepted [] outside = Some outside
if_accepted (fault ∷ rest) outside = None

-- what is at fault, each once, by start, then end, then code
abbrev pub faults_of : (List ℕ → ImportStatus) → List ℕ → ModuleUnits → List Diagnostic
faults_of given source units = in_order (all_faults given source units)

-- the facts of a module, by what the modules are that it names
abbrev pub facts_of : (List ℕ → ImportStatus) → List ℕ → ModuleUnits → ModuleFacts
facts_of given source units =
    record { faults = faults_of given source units; uses = all_uses given source units; decls = all_decls given source units; outside = if_accepted (faults_of given source units) (outside_in (files_given given) source units) }

-- the facts that a checked module tells
abbrev pub facts_told : CheckedModule → ModuleFacts
facts_told checked = record { faults = checked.faults; uses = checked.uses; decls = checked.decls; outside = if_accepted checked.faults (face_outside checked.face) }
