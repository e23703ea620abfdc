-- The names of a module that is read begin at places of their own.
use Rattle.std.proofs.Common.{◌≡◌, ◌≤◌, ℕ, List, [], ◌∷◌, Bool, refl, sym, ap, subst, map, arith}
use Rattle.tla_symbols.specs.declared.lexeme.Lexeme.{Lexeme}
use Rattle.unit_grammar.specs.Units.{ModuleUnits}
use Rattle.unit_grammar.specs.Derivation.{DerivesModule}
use Rattle.front_laws.specs.Fronts.{IsFront, Tree, read, whole}
use Rattle.module_model.specs.Modules.{text_of}
use Rattle.tla_model.specs.declared.names.Binder.{Binder}
use Rattle.tla_model.specs.Entities.{declaring}
use Rattle.tla_model.specs.Lexemes.{module_lexemes, units_lexemes}
use Rattle.flat_kinds.specs.Declarations.{StandApart}
use Rattle.lexeme_laws.specs.Apart.{BeginApart, begins_at, counted, declared_lexemes}
use Rattle.lexeme_laws.proofs.Counting.{count-append}
use Rattle.lexeme_laws.proofs.HeldUnits.{module-in}
use Rattle.lexeme_laws.proofs.Starts.{part-apart}
use Rattle.lexeme_laws.proofs.Declared.{names_of, starts-apart, units-few}

pub held-few : (p : Lexeme → Bool) (found : ModuleUnits) (lexemes : List Lexeme) → DerivesModule found lexemes → counted p (module_lexemes found) ≤ counted p lexemes
held-few p found lexemes derives = (module-in {p = p} derives).few

pub declared-few : (p : Lexeme → Bool) (found : ModuleUnits) → counted p (declared_lexemes found) ≤ counted p (module_lexemes found)
declared-few p found = omega (arith, units-few p found.units, count-append p found.extends (units_lexemes found.units))

pub front-apart : (name bytes : List ℕ) (found : ModuleUnits) → IsFront name bytes (Tree found) → BeginApart (module_lexemes found)
front-apart name bytes found (read {lexemes = lexemes} r l m (whole d h s)) start = omega (arith, held-few (begins_at start) found lexemes d, part-apart bytes lexemes m start)

starts-of : (binders : List Binder) → map (λ binder. binder.name.span.start) binders ≡ map (λ l. l.span.start) (names_of binders)
starts-of [] = refl
starts-of (binder ∷ rest) = ap (λ starts. binder.name.span.start ∷ starts) (starts-of rest)

pub declared-apart : (name bytes : List ℕ) (found : ModuleUnits) → IsFront name bytes (Tree found) → StandApart (text_of bytes found).starts
declared-apart name bytes found front =
    subst StandApart (sym (starts-of (declaring found.units)))
    (starts-apart (names_of (declaring found.units)) (λ start. omega (arith, declared-few (begins_at start) found, front-apart name bytes found front start)))
