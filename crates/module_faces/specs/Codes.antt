-- Faults by their codes.
use Rattle.std.specs.Prelude.{ℕ, List, [], Option, Some, None}
use Rattle.tla_symbols.specs.declared.lexeme.Lexeme.{Lexeme}
use Rattle.tla_model.specs.declared.Diagnostic.{Diagnostic}
use Rattle.module_model.specs.Bindings.{fault_at}

-- the fault of this code at a name, if there is a code
abbrev pub fault_if : Option ℕ → Lexeme → List Diagnostic
fault_if None name = []
fault_if (Some code) name = fault_at code name
