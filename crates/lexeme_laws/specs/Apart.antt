-- When lexemes begin at places of their own.
use Rattle.std.specs.Prelude.{ℕ, ◌+◌, ◌≤◌, Bool, List, [], ◌∷◌, if◌then◌else◌, map, nat_eq}
use Rattle.tla_symbols.specs.declared.lexeme.Lexeme.{Lexeme}
use Rattle.unit_grammar.specs.Units.{ModuleUnits}
use Rattle.tla_model.specs.Entities.{declaring}

-- one where a lexeme passes a test
abbrev pub weight : (Lexeme → Bool) → Lexeme → ℕ
weight p l = if p l then 1 else 0

-- how many of these lexemes pass it
abbrev pub counted : (Lexeme → Bool) → List Lexeme → ℕ
counted p [] = 0
counted p (l ∷ ls) = weight p l + counted p ls

-- a lexeme begins here
abbrev pub begins_at : ℕ → Lexeme → Bool
begins_at start l = nat_eq l.span.start start

-- no two of these lexemes begin at one place
abbrev pub BeginApart : List Lexeme → Type 0
BeginApart ls = (start : ℕ) → counted (begins_at start) ls ≤ 1

-- the names that a module declares and binds
abbrev pub declared_lexemes : ModuleUnits → List Lexeme
declared_lexemes units = map (λ binder. binder.name) (declaring units.units)
