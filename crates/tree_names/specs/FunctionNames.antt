-- Names of functions in their bodies.
use Rattle.std.specs.Prelude.{false}
use Rattle.tla_symbols.specs.declared.lexeme.Lexeme.{Lexeme}
use Rattle.tla_model.specs.declared.names.Binder.{Binder}
use Rattle.tla_model.specs.declared.names.Binding.TheVariants as binding
use Rattle.tla_model.specs.Entities.{entity_of}

-- a function's name, as a bound name in its body
abbrev pub function_name : Lexeme → Binder
function_name l = record { name = l; entity = entity_of (binding.Bound false) 0 }
