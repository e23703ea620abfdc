-- What a text is read over, and what is found where a module is extended.
use Rattle.std.specs.Prelude.{◌≡◌, ℕ, List, [], ◌∷◌, if◌then◌else◌}
use Rattle.tla_symbols.specs.declared.lexeme.Lexeme.{Lexeme}
use Rattle.tla_model.specs.declared.names.Finding.TheVariants.{Clashes, InstanceClashes}
use Rattle.tla_model.specs.Entities.{Text}
use Rattle.tla_model.specs.Lexemes.{spelled}
use Rattle.tla_model.specs.Scopes.{Finding}
use Rattle.module_scope.specs.Environments.{Environment}
use Rattle.module_model.specs.Exports.{Exports, ModuleView, exports_by, files_of}
use Rattle.module_model.specs.Imports.{Imports}
use Rattle.module_model.specs.Instances.{brought_by}
use Rattle.module_model.specs.NamedModules.{unit_of}
use Rattle.instance_scope.specs.Scoped.{module_in}
use Rattle.module_model.specs.Modules.{Reading, brings, brings_clash}
use Rattle.instance_scope.specs.declared.scope.Scope.{Scope}
use Rattle.name_exports.specs.Brought.{ModuleNames, as_read}
use Rattle.name_exports.specs.declared.names.Names.{Names}

-- the imports, and where the module names of instances, and the paths through them, begin in a text
pub record Over : Type 0 where
  pub imports : Imports
  pub words : List ℕ
  pub paths : List ℕ

-- what is kept of them
abbrev pub over_of : Scope → Over
over_of scope = record { imports = scope.imported.now; words = scope.words; paths = scope.paths }

-- what the files are
abbrev pub files_over : Over → List ℕ → ModuleView
files_over over = files_of over.imports

-- what the files of these names export
abbrev pub Files : Type 0
Files = List ℕ → Exports

-- what the files export that are kept
abbrev pub files_in : Scope → Files
files_in scope = exports_by (files_of scope.imported.now)

-- a module that is extended, where it brings a clash
abbrev pub clash_at : Text → Files → Reading → Lexeme → List Finding
clash_at text files reading l = if brings_clash reading (brings text files reading l) then Clashes l ∷ [] else []

-- what an INSTANCE without a name brings of the module of a name
abbrev pub instance_at : Text → Scope → Environment ℕ → Lexeme → Exports
instance_at text scope modules l = brought_by (unit_of text scope.words l) (module_in scope modules (spelled text.source l))

-- an INSTANCE that brings a clash
abbrev pub instance_clash : Reading → Exports → Lexeme → List Finding
instance_clash reading entries l = if brings_clash reading entries then InstanceClashes l ∷ [] else []

-- names go on as those of a module, whatever its title and the module names that are taken there
abbrev pub GoOn : (Reading → Reading) → Names → Names → Type 0
GoOn step old new = (title : List ℕ) → (taken : ModuleNames) → as_read title taken new ≡ step (as_read title taken old)
