-- Declaring names stand in the text of a module.
use Rattle.std.proofs.Common.{◌≡◌, ℕ, List, sym, subst}
use Rattle.std.specs.List.{All}
use Rattle.std.specs.Str.{IsCharBoundary}
use Rattle.std.proofs.lemmas.List.Elements.{All-from_recursion}
use Rattle.list_laws.proofs.Lists.{all-right, all-weaker}
use Rattle.tla_symbols.specs.declared.lexeme.Lexeme.{Lexeme}
use Rattle.unit_grammar.specs.Units.{ModuleUnits}
use Rattle.tla_model.specs.declared.names.Binder.{Binder}
use Rattle.tla_model.specs.Entities.{declaring}
use Rattle.tla_model.specs.Lexemes.{LexemesLie, LiesIn, module_lexemes, units_lexemes}
use Rattle.tla_model.proofs.Holding.{declaring-at}

-- names begin at characters of a text
abbrev pub NamesBegin : List ℕ → List Binder → Type 0
NamesBegin text binders = All (λ binder. IsCharBoundary text binder.name.span.start) binders

names-begin : (source : List ℕ) (units : ModuleUnits) → LexemesLie source units → NamesBegin source (declaring units.units)
names-begin source units lie =
    let P : Lexeme → Type 0 = λ l. IsCharBoundary source l.span.start in
    let begin = all-weaker (LiesIn source) P (λ l lies. lies.start) (module_lexemes units) lie in
    All-from_recursion (λ (binder : Binder). P binder.name) (declaring units.units)
    (declaring-at P units.units (all-right P units.extends (units_lexemes units.units) begin.1))

-- so do the names that a module declares, in its text
pub declaring-begin : (source text : List ℕ) (units : ModuleUnits) (binders : List Binder) → LexemesLie source units → text ≡ source → binders ≡ declaring units.units → NamesBegin text binders
declaring-begin source text units binders lie is are = subst (λ t. NamesBegin t binders) (sym is) (subst (NamesBegin source) (sym are) (names-begin source units lie))
