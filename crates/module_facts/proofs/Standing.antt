-- Faults stand in the text of a module, at its names, symbols and nodes.
use Rattle.std.proofs.Common.{ℕ, List, [], ◌∷◌}
use Rattle.std.specs.List.{All, AllByRecursion, Contains}
use Rattle.std.proofs.lemmas.List.Elements.{All-append, All-cons, All-contains, All-from_recursion, All-head, All-nil, All-tail, All-weaker}
use Rattle.tla_symbols.specs.declared.lexeme.Span.{Span}
use Rattle.tla_symbols.specs.declared.lexeme.Lexeme.{Lexeme}
use Rattle.tla_model.specs.declared.Diagnostic.{Diagnostic}
use Rattle.module_model.specs.Bindings.{fault_at, faults, implied, replaced_by}
use Rattle.tla_model.specs.declared.names.Finding.TheVariants.{Implied}
use Rattle.tla_model.specs.declared.names.Meaning.TheVariants.{BuiltIn, Declared}
use Rattle.tla_model.specs.Entities.{Meaning}
use Rattle.tla_model.specs.Lexemes.{LexemesLie, LiesIn, module_lexemes, spelled, units_lexemes}
use Rattle.tla_model.specs.Scopes.{Finding}
use Rattle.module_model.specs.declared.bound.Implied.{Implied as Replaced}
use Rattle.module_model.specs.Resolution.{findings}
use Rattle.module_graph.specs.Imports.{enclosing_of, imports_of}
use Rattle.unit_grammar.specs.Units.{ModuleUnits}
use Rattle.list_laws.proofs.Lists.{all-both, all-right}
use Rattle.model_laws.proofs.FaultPlaces.{Stands as Places, faults-at, findings-at}
use Rattle.span_laws.specs.NodeSpans.{NodeSpans, SpansText}
use Rattle.arity_rules.specs.Arities.{arity_faults}
use Rattle.arity_rules.proofs.FaultPlaces.{faults-stand}
use Rattle.module_facts.specs.Checks.{ImportStatus, Unknown, Cyclic, Refused, Accepted, all_faults, cyclic_at, faults_of_imports, files_given, import_fault, import_faults, name_faults, or_others}

abbrev At : (Span → Type 0) → Lexeme → Type 0
At P l = P l.span

module _ (P : Span → Type 0) where
  abbrev Stands : Diagnostic → Type 0
  Stands fault = P fault.span

  at-name : (code : ℕ) (l : Lexeme) → P l.span → All Stands (fault_at code l)
  at-name code l there = All-cons Stands (record { code = code; span = l.span }) [] there (All-nil Stands)

  import-stands : (given : ImportStatus) (l : Lexeme) → P l.span → All Stands (import_fault given l)
  import-stands Unknown l there = at-name 301 l there
  import-stands Cyclic l there = at-name 302 l there
  import-stands Refused l there = at-name 303 l there
  import-stands (Accepted exports) l there = All-nil Stands

  imports-stand : (given : List ℕ → ImportStatus) (source : List ℕ) (names : List Lexeme) → All (At P) names → All Stands (faults_of_imports given source names)
  imports-stand given source [] all = All-nil Stands
  imports-stand given source (l ∷ names) all =
      All-append Stands (import_fault (given (spelled source l)) l) (faults_of_imports given source names) (import-stands (given (spelled source l)) l (All-head (At P) l names all))
      (imports-stand given source names (All-tail (At P) l names all))

  cyclic-stand : (names : List Lexeme) → All (At P) names → All Stands (cyclic_at names)
  cyclic-stand [] all = All-nil Stands
  cyclic-stand (l ∷ names) all = All-append Stands (fault_at 302 l) (cyclic_at names) (at-name 302 l (All-head (At P) l names all)) (cyclic-stand names (All-tail (At P) l names all))

  either-stands : (all others : List Diagnostic) → All Stands all → All Stands others → All Stands (or_others all others)
  either-stands [] others first second = second
  either-stands (fault ∷ all) others first second = first

-- ---- findings

replaced-stands : (P : Span → Type 0) (l : Lexeme) (parameter meaning : Meaning) → P l.span → AllByRecursion (λ (r : Replaced). P r.at) (replaced_by l parameter meaning)
replaced-stands P l (Declared parameter callee) (Declared symbol other) there = (there, tt)
replaced-stands P l (Declared parameter callee) BuiltIn there = tt
replaced-stands P l BuiltIn meaning there = tt

implied-stands : (P : Span → Type 0) (found : List Finding) → AllByRecursion (Places (At P)) found → AllByRecursion (λ (r : Replaced). P r.at) (implied found)
implied-stands P [] all = tt
implied-stands P (Implied l parameter meaning ∷ rest) all =
    all-both (λ (r : Replaced). P r.at) (replaced_by l parameter meaning) (implied rest) (replaced-stands P l parameter meaning all.0) (implied-stands P rest all.1)
implied-stands P (finding ∷ rest) all = implied-stands P rest all.1

-- ---- all faults

-- a lexeme that lies in a text has a span of it
lies-spans : (source : List ℕ) (ls : List Lexeme) → AllByRecursion (LiesIn source) ls → AllByRecursion (At (SpansText source)) ls
lies-spans source [] all = tt
lies-spans source (l ∷ ls) all = (record { order = all.0.order; placed = record { start = all.0.start; end = all.0.end } }, lies-spans source ls all.1)

names-at : (source : List ℕ) (units : ModuleUnits) (names : List Lexeme) → AllByRecursion (At (SpansText source)) (module_lexemes units) → All (Contains (module_lexemes units)) names → All (At (SpansText source)) names
names-at source units names held all =
    All-weaker (Contains (module_lexemes units)) (At (SpansText source)) (λ l there. All-contains (At (SpansText source)) (module_lexemes units) l (All-from_recursion (At (SpansText source)) (module_lexemes units) held) there) names all

pub all-stand : (given : List ℕ → ImportStatus) (source : List ℕ) (units : ModuleUnits) → LexemesLie source units → NodeSpans (SpansText source) units
    → All (Contains (module_lexemes units)) (imports_of source units) → All (Contains (module_lexemes units)) (enclosing_of source units)
    → All (λ fault. SpansText source fault.span) (all_faults given source units)
all-stand given source units lie spans needed cyclic =
    let P : Span → Type 0 = SpansText source in
    let held = lies-spans source (module_lexemes units) lie in
    let found : List Finding = findings (files_given given) source units in
    let places = findings-at (At P) (files_given given) source units held in
    either-stands P (import_faults given source units) (name_faults found units)
    (All-append (Stands P) (faults_of_imports given source (imports_of source units)) (cyclic_at (enclosing_of source units))
    (imports-stand P given source (imports_of source units) (names-at source units (imports_of source units) held needed))
    (cyclic-stand P (enclosing_of source units) (names-at source units (enclosing_of source units) held cyclic)))
    (All-append (Stands P) (faults found) (arity_faults found units.units) (faults-at P (files_given given) source units held)
    (All-from_recursion (Stands P) (arity_faults found units.units)
    (faults-stand P found units.units spans (all-right (At P) units.extends (units_lexemes units.units) held.1) (implied-stands P found places))))
