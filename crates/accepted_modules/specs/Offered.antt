-- Names that modules offer to those that name them.
use Rattle.std.specs.Prelude.{◌≡◌, ◌⊎◌, true}
use Rattle.tla_model.specs.Tables.{Named}
use Rattle.tla_model.specs.Entities.{Meaning}
use Rattle.tla_model.specs.EntityKinds.{is_meant, stands_behind, stands_for_parameter}

-- a name is a symbol, or a definition or an instance
abbrev pub IsOffered : Named → Meaning → Type 0
IsOffered name meaning = (is_meant stands_for_parameter meaning ≡ true) ⊎ (is_meant stands_behind meaning ≡ true)
