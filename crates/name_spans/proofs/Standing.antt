-- Uses and declaring names stand in the text of a module, at its names and symbols.
use Rattle.std.proofs.Common.{ℕ, List, [], ◌∷◌, map}
use Rattle.std.specs.List.{All, AllByRecursion}
use Rattle.std.proofs.lemmas.List.Elements.{All-from_recursion, All-nil}
use Rattle.tla_symbols.specs.declared.lexeme.Lexeme.{Lexeme}
use Rattle.tla_symbols.specs.declared.lexeme.Span.{Span}
use Rattle.unit_grammar.specs.Units.{ModuleUnits}
use Rattle.tla_model.specs.declared.Diagnostic.{Diagnostic}
use Rattle.tla_model.specs.declared.entity.Decl.{Decl}
use Rattle.tla_model.specs.declared.entity.Use.{Use}
use Rattle.tla_model.specs.declared.names.Binder.{Binder}
use Rattle.tla_model.specs.declared.names.Finding.TheVariants.{Means}
use Rattle.tla_model.specs.declared.names.Meaning.TheVariants.{BuiltIn, Declared}
use Rattle.tla_model.specs.Entities.{Meaning, Text, declaring}
use Rattle.tla_model.specs.Lexemes.{LexemesLie, LiesIn, module_lexemes, units_lexemes}
use Rattle.tla_model.specs.Scopes.{Finding}
use Rattle.tla_model.proofs.Holding.{Binds, declaring-at}
use Rattle.module_model.specs.Bindings.{Resolved, decls, meant_by, resolved}
use Rattle.module_model.specs.Modules.{text_of}
use Rattle.module_model.specs.Resolution.{findings}
use Rattle.list_laws.proofs.Lists.{all-both, all-right}
use Rattle.model_laws.proofs.FaultPlaces.{Stands as Places, findings-at}
use Rattle.span_laws.specs.NodeSpans.{SpansText}
use Rattle.module_facts.specs.Checks.{ImportStatus, all_decls, all_uses, files_given, import_faults, unless_any}

abbrev At : (Span → Type 0) → Lexeme → Type 0
At P l = P l.span

-- a lexeme that lies in a text has a span of it
lies-spans : (source : List ℕ) (ls : List Lexeme) → AllByRecursion (LiesIn source) ls → AllByRecursion (At (SpansText source)) ls
lies-spans source [] all = tt
lies-spans source (l ∷ ls) all = (record { order = all.0.order; placed = record { start = all.0.start; end = all.0.end } }, lies-spans source ls all.1)

-- what holds of all items holds of those of a module without faults of imports
any-stand : {A : Type 0} (P : A → Type 0) (imports : List Diagnostic) (items : List A) → AllByRecursion P items → All P (unless_any imports items)
any-stand P [] items all = All-from_recursion P items all
any-stand P (fault ∷ rest) items all = All-nil P

module _ (P : Span → Type 0) where
  meant-stands : (l : Lexeme) (meaning : Meaning) → P l.span → AllByRecursion (λ (r : Resolved). P r.«use».name) (meant_by l meaning)
  meant-stands l BuiltIn there = tt
  meant-stands l (Declared entity callee) there = (there, tt)

  resolved-stand : (found : List Finding) → AllByRecursion (Places (At P)) found → AllByRecursion (λ (r : Resolved). P r.«use».name) (resolved found)
  resolved-stand [] all = tt
  resolved-stand (Means l meaning ∷ rest) all =
      all-both (λ (r : Resolved). P r.«use».name) (meant_by l meaning) (resolved rest) (meant-stands l meaning all.0) (resolved-stand rest all.1)
  resolved-stand (finding ∷ rest) all = resolved-stand rest all.1

  uses-stand : (found : List Resolved) → AllByRecursion (λ (r : Resolved). P r.«use».name) found → AllByRecursion (λ (u : Use). P u.name) (map (λ r. r.«use») found)
  uses-stand [] all = tt
  uses-stand (r ∷ rest) all = (all.0, uses-stand rest all.1)

  decls-stand : (text : Text) (names : List Binder) → AllByRecursion (Binds (At P)) names → AllByRecursion (λ (d : Decl). P d.name) (decls text names)
  decls-stand text [] all = tt
  decls-stand text (name ∷ names) all = (all.0, decls-stand text names all.1)

pub all-uses-stand : (given : List ℕ → ImportStatus) (source : List ℕ) (units : ModuleUnits) → LexemesLie source units → All (λ u. SpansText source u.name) (all_uses given source units)
all-uses-stand given source units lie =
    let P : Span → Type 0 = SpansText source in
    let found : List Finding = findings (files_given given) source units in
    any-stand (λ (u : Use). P u.name) (import_faults given source units) (map (λ r. r.«use») (resolved found))
    (uses-stand P (resolved found) (resolved-stand P found (findings-at (At P) (files_given given) source units (lies-spans source (module_lexemes units) lie))))

pub all-decls-stand : (given : List ℕ → ImportStatus) (source : List ℕ) (units : ModuleUnits) → LexemesLie source units → All (λ d. SpansText source d.name) (all_decls given source units)
all-decls-stand given source units lie =
    let P : Span → Type 0 = SpansText source in
    let held = lies-spans source (module_lexemes units) lie in
    any-stand (λ (d : Decl). P d.name) (import_faults given source units) (decls (text_of source units) (declaring units.units))
    (decls-stand P (text_of source units) (declaring units.units) (declaring-at (At P) units.units (all-right (At P) units.extends (units_lexemes units.units) held.1)))
