-- What symbols are looked up by in tables.
use Rattle.std.specs.Prelude.{ℕ, Bool, true, false, ◌&&◌, Option, Some, None, nat_eq}
use Rattle.tla_model.specs.declared.entity.Entity.TheVariants as entity
use Rattle.tla_model.specs.declared.names.Meaning.TheVariants.{BuiltIn, Declared}
use Rattle.tla_model.specs.Entities.{Entity, Meaning, same_meaning}
use Rattle.module_leads.specs.declared.keys.SymbolKey.{SymbolKey}

-- ---- symbols

-- both are variables, or constants with so many places
abbrev pub same_arity : Option ℕ → Option ℕ → Bool
same_arity None None = true
same_arity (Some m) (Some n) = nat_eq m n
same_arity _ _ = false

-- the same symbol
abbrev pub same_key : SymbolKey → SymbolKey → Bool
same_key a b = same_arity a.arity b.arity && same_meaning a.meaning b.meaning

-- the places of a constant, or that it is a variable
abbrev pub symbol_arity : Entity → Option (Option ℕ)
symbol_arity (entity.Constant n) = Some (Some n)
symbol_arity entity.Variable = Some None
symbol_arity _ = None

-- the same of what is meant
abbrev pub meant_arity : Meaning → Option (Option ℕ)
meant_arity BuiltIn = None
meant_arity (Declared e callee) = symbol_arity e

-- a meaning with its places as a key
abbrev pub key_by : Option (Option ℕ) → Meaning → Option SymbolKey
key_by None meaning = None
key_by (Some arity) meaning = Some (record { arity = arity; meaning = meaning })

-- the key of a symbol
abbrev pub symbol_key : Meaning → Option SymbolKey
symbol_key meaning = key_by (meant_arity meaning) meaning
