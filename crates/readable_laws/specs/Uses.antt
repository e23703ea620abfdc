-- What is meant where names begin, by what was found of them.
use Rattle.std.specs.Prelude.{ℕ, List, [], ◌∷◌, ◌++◌, Option, if◌then◌else◌, map, nat_eq}
use Rattle.std.specs.Map.{lookup}
use Rattle.tla_symbols.specs.declared.lexeme.Lexeme.{Lexeme}
use Rattle.tla_model.specs.declared.names.Finding.TheVariants.{Means, Implied}
use Rattle.tla_model.specs.Entities.{Meaning}
use Rattle.tla_model.specs.Scopes.{Finding}

-- a lexeme at which something is meant, with what that is
abbrev pub used_at : Finding → List (Lexeme × Meaning)
used_at (Means l meaning) = (l, meaning) ∷ []
used_at finding = []

-- the same of all findings, in their order
abbrev pub used : List Finding → List (Lexeme × Meaning)
used [] = []
used (finding ∷ rest) = used_at finding ++ used rest

-- the lexemes at which something is meant
abbrev pub used_lexemes : List Finding → List Lexeme
used_lexemes found = map (λ u. u.0) (used found)

-- what is meant at the first of these lexemes that begins here
abbrev pub means_by : List Finding → ℕ → Option Meaning
means_by found start = lookup (nat_eq start) (map (λ u. (u.0.span.start, u.1)) (used found))

-- what stands in for a parameter, at a lexeme that begins here
abbrev pub implied_at : ℕ → Finding → List Meaning
implied_at start (Implied l parameter meaning) = if nat_eq start l.span.start then meaning ∷ [] else []
implied_at start finding = []

-- the same of all findings, in their order
abbrev pub implied_by : List Finding → ℕ → List Meaning
implied_by [] start = []
implied_by (finding ∷ rest) start = implied_at start finding ++ implied_by rest start

-- a finding that is no fault
abbrev pub IsSound : Finding → Type 0
IsSound (Means l meaning) = Unit {0}
IsSound (Implied l parameter meaning) = Unit {0}
IsSound finding = ⊥
