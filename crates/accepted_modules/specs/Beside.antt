-- Names that are none of those that are built in.
use Rattle.std.specs.Prelude.{◌≡◌, None}
use Rattle.tla_model.specs.declared.names.Meaning.TheVariants.{BuiltIn, Declared}
use Rattle.tla_model.specs.Tables.{Named, find}
use Rattle.tla_model.specs.Contexts.{built_in}
use Rattle.tla_model.specs.Entities.{Meaning}

-- a name means a declaration, and is none that is built in
abbrev pub IsBeside : Named → Meaning → Type 0
IsBeside name BuiltIn = ⊥
IsBeside name (Declared e callee) = find built_in name ≡ None
