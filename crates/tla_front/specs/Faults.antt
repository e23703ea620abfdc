-- The faults that `front` answers.
use Rattle.std.specs.Prelude.{◌≡◌, ℕ, List, ◌∷◌, drop}
use Rattle.tla_symbols.specs.declared.lexeme.Lexeme.{Lexeme}
use Rattle.tla_lexeme.specs.Spans.{IsPlaced}
use Rattle.tla_model.specs.declared.Diagnostic.{Diagnostic}
use Rattle.front_laws.specs.Fronts.{Fault, fault_of, syntax_code, IsFront, IsFrontOfLexemes}
use Rattle.tla_front.specs.declared.module.FrontError.{FrontError}

-- a fault is the front of these bytes, for a file of this name; want of memory says nothing of them
abbrev pub IsFrontFault : List ℕ → List ℕ → FrontError → Type 0
IsFrontFault name bytes (FrontError.Fault fault) = IsFront name bytes (Fault fault)
IsFrontFault name bytes FrontError.Memory = Unit {0}

-- the fault stands in the text
abbrev pub IsFaultPlaced : List ℕ → FrontError → Type 0
IsFaultPlaced text (FrontError.Fault fault) = IsPlaced text fault.span
IsFaultPlaced text FrontError.Memory = Unit {0}

-- ---- from lexemes on

-- the fault of the lexemes of a text, for a file of this name
abbrev pub IsFaultOfLexemes : List ℕ → List ℕ → List Lexeme → FrontError → Type 0
IsFaultOfLexemes name text lexemes (FrontError.Fault fault) = IsFrontOfLexemes name text lexemes (Fault fault)
IsFaultOfLexemes name text lexemes FrontError.Memory = Unit {0}

-- the fault is that of a first bad lexeme that stands behind so many
abbrev pub IsFaultBehind : List Lexeme → ℕ → Diagnostic → Type 0
IsFaultBehind lexemes index fault = (l : Lexeme) × (rest : List Lexeme) × (drop index lexemes ≡ l ∷ rest) × (fault ≡ fault_of (syntax_code l.kind) l)
