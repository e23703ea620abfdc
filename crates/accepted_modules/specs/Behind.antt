-- What stands behind each declaration that is an instance, and modules of whose names that is so.
use Rattle.std.specs.Prelude.{◌≡◌, ℕ, false, List, Some, if◌then◌else◌}
use Rattle.std.specs.List.{AllByRecursion}
use Rattle.std.specs.Str.{bytes_eq}
use Rattle.tla_model.specs.declared.ids.DeclId.{DeclId}
use Rattle.tla_model.specs.declared.names.Meaning.TheVariants.{BuiltIn, Declared}
use Rattle.tla_model.specs.Tables.{Named}
use Rattle.tla_model.specs.Entities.{Meaning}
use Rattle.module_model.specs.Exports.{Behind, Known, ModuleView, at_path, behind_meaning, exported, onward}
use Rattle.flat_kinds.specs.Declarations.{Declarations, IsDeclared}
use Rattle.accepted_modules.specs.Named.{AllNamed}

-- what stands behind each declaration
abbrev pub Behinds : Type 0
Behinds = DeclId → Behind

-- the same, as what is known
abbrev pub all_known : Behinds → Known
all_known behinds decl = Some (behinds decl)

-- with what is known of the declarations of the module of this title
abbrev pub with_own : List ℕ → Known → Behinds → Behinds
with_own title known behinds decl = if bytes_eq decl.«module» title then at_path (known decl) else behinds decl

-- behind each name that a module exports stands what does behind its declaration
abbrev pub IsViewBehind : Behinds → ModuleView → Type 0
IsViewBehind behinds view = AllByRecursion (λ entry. onward view.entries entry.0 ≡ behind_meaning (all_known behinds) (Some entry.1)) (exported view)

-- a name means no declaration of the module of this title
abbrev pub IsForeign : List ℕ → Named → Meaning → Type 0
IsForeign title name BuiltIn = Unit {0}
IsForeign title name (Declared e callee) = bytes_eq callee.decl.«module» title ≡ false

-- the same of all names of a module
abbrev pub IsForeignView : List ℕ → ModuleView → Type 0
IsForeignView title view = AllNamed (IsForeign title) view

-- names of a module are what their declarations are, each once, and behind them stands what stands behind these
pub record IsGivenView (declares : Declarations) (behinds : Behinds) (view : ModuleView) : Type 0 where
  pub names : AllNamed (IsDeclared declares) view
  pub behind : IsViewBehind behinds view
