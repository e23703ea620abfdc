-- A module with its names resolved.
use Rattle.std.specs.Prelude.{◌≡◌, ◌↔◌, ◌<◌, ◌||◌, ◌&&◌, ℕ, Bool, true, List, [], ◌∷◌, ◌++◌, Some, map, nat_lt, nat_eq, slice_get, Contains}
use Rattle.tla_symbols.specs.declared.lexeme.Lexeme.{Lexeme}
use Rattle.tla_model.specs.declared.names.Finding.TheVariants.{Means, Unknown, Taken, Clashes, InstanceClashes, NotReplaceable, ReplacedTwice, Unreplaced, Implied}
use Rattle.tla_model.specs.declared.names.Binder.{Binder}
use Rattle.tla_model.specs.declared.names.Meaning.TheVariants.{BuiltIn, Declared}
use Rattle.tla_model.specs.declared.Diagnostic.{Diagnostic}
use Rattle.module_model.specs.declared.bound.Bound.{Bound}
use Rattle.module_model.specs.declared.bound.Implied.{Implied as Replaced}
use Rattle.tla_model.specs.declared.entity.Decl.{Decl}
use Rattle.tla_model.specs.declared.entity.Level.{Level}
use Rattle.tla_model.specs.declared.entity.Use.{Use}
use Rattle.tla_model.specs.declared.ids.Callee.{Callee}
use Rattle.tla_model.specs.declared.ids.DeclId.{DeclId}
use Rattle.unit_grammar.specs.Units.{ModuleUnits}
use Rattle.tla_model.specs.Entities.{Entity, Meaning, Text, declaration, declaring}
use Rattle.module_model.specs.Exports.{ModuleView}
use Rattle.module_model.specs.Modules.{text_of}
use Rattle.module_model.specs.Resolution.{findings}
use Rattle.tla_model.specs.Scopes.{Finding}

-- the uses that mean a declaration, each with its entity and what it calls: those of built-in names are none
pub record Resolved : Type 0 where
  pub «use» : Use
  pub entity : Entity
  pub callee : Callee

-- a use of a declaration
abbrev pub use_of : Lexeme → DeclId → Use
use_of l decl = record { name = l.span; «module» = decl.«module»; place = decl.place; level = Level.Constant }

-- what a use means, unless its name is built in
abbrev pub meant_by : Lexeme → Meaning → List Resolved
meant_by l BuiltIn = []
meant_by l (Declared entity callee) = record { «use» = use_of l callee.decl; entity = entity; callee = callee } ∷ []

-- what is found at one name, as a use where it means a declaration
abbrev pub resolved_at : Finding → List Resolved
resolved_at (Means l meaning) = meant_by l meaning
resolved_at _ = []

-- the same of all findings, in their order
abbrev pub resolved : List Finding → List Resolved
resolved [] = []
resolved (finding ∷ rest) = resolved_at finding ++ resolved rest

-- the replacements that are not written
abbrev pub replaced_by : Lexeme → Meaning → Meaning → List Replaced
replaced_by l (Declared parameter replaced) (Declared symbol callee) = record { at = l.span; parameter = parameter; symbol = symbol; callee = callee } ∷ []
replaced_by l parameter meaning = []

-- what is found at one name, as a replacement where it is one that is not written
abbrev pub implied_at : Finding → List Replaced
implied_at (Implied l parameter meaning) = replaced_by l parameter meaning
implied_at _ = []

-- the same of all findings, in their order
abbrev pub implied : List Finding → List Replaced
implied [] = []
implied (finding ∷ rest) = implied_at finding ++ implied rest

-- the declarations of a text
abbrev pub decls : Text → List Binder → List Decl
decls text names = map (λ binder. record { id = declaration text binder.name; name = binder.name.span; entity = binder.entity }) names

-- a fault of this code at the place of a lexeme
abbrev pub fault_at : ℕ → Lexeme → List Diagnostic
fault_at code l = record { code = code; span = l.span } ∷ []

-- a finding as a fault; a use that means something is none, nor is a replacement that is not written
abbrev pub fault : Finding → List Diagnostic
fault (Means l meaning) = []
fault (Unknown l) = fault_at 401 l
fault (Taken l) = fault_at 402 l
fault (Clashes l) = fault_at 403 l
fault (InstanceClashes l) = fault_at 404 l
fault (NotReplaceable l) = fault_at 405 l
fault (ReplacedTwice l) = fault_at 406 l
fault (Unreplaced l) = fault_at 407 l
fault (Implied l parameter meaning) = []

-- the faults among findings, in their order
abbrev pub faults : List Finding → List Diagnostic
faults [] = []
faults (finding ∷ rest) = fault finding ++ faults rest

-- by the start, then the end, then the code
abbrev pub is_before : Diagnostic → Diagnostic → Bool
is_before a b =
    nat_lt a.span.start b.span.start
    || (nat_eq a.span.start b.span.start && (nat_lt a.span.end b.span.end || (nat_eq a.span.end b.span.end && nat_lt a.code b.code)))

-- these diagnostics in order, each once
pub record AreInOrder (all found : List Diagnostic) : Type 0 where
  pub same : (fault : Diagnostic) → Contains found fault ↔ Contains all fault
  pub ordered : (i j : ℕ) (a b : Diagnostic) → slice_get found i ≡ Some a → slice_get found j ≡ Some b → i < j → is_before a b ≡ true

-- what the names of a module stand for, by what is found at them
pub record IsBoundBy (found : List Finding) (source : List ℕ) (units : ModuleUnits) (bound : Bound) : Type 0 where
  pub uses : bound.uses ≡ map (λ r. r.«use») (resolved found)
  pub entities : bound.entities ≡ map (λ r. r.entity) (resolved found)
  pub callees : bound.callees ≡ map (λ r. r.callee) (resolved found)
  pub implied : bound.implied ≡ implied found
  pub decls : bound.decls ≡ decls (text_of source units) (declaring units.units)
  pub faults : AreInOrder (faults found) bound.faults

-- the same, by what the files are that the module names, and its source
abbrev pub IsBound : (List ℕ → ModuleView) → List ℕ → ModuleUnits → Bound → Type 0
IsBound files source units bound = IsBoundBy (findings files source units) source units bound
