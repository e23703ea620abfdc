-- What is kept of findings.
use Rattle.indexmap.specs.IndexMap.{get}
use Rattle.std.specs.Prelude.{◌≡◌, ℕ, List, [], Option, Some, None, if◌then◌else◌, nat_eq, unwrap_or}
use Rattle.tla_model.specs.declared.names.Finding.TheVariants.{Means}
use Rattle.tla_model.specs.Entities.{Meaning}
use Rattle.tla_model.specs.Scopes.{Finding}
use Rattle.readable_laws.specs.Uses.{implied_by, means_by}
use Rattle.written_names.specs.declared.names.WrittenNames.{WrittenNames}

-- what is kept of names is what was found at them
pub record AreNamesOf (found : List Finding) (names : WrittenNames) : Type 0 where
  pub means : (start : ℕ) → get nat_eq names.means start ≡ means_by found start
  pub implied : (start : ℕ) → unwrap_or (get nat_eq names.implied start) [] ≡ implied_by found start

-- ---- one finding more

-- what the name means that begins here: what was kept, or else this, if it begins there
abbrev pub meaning_there : Option Meaning → ℕ → Meaning → ℕ → Option Meaning
meaning_there (Some kept) start meaning other = Some kept
meaning_there None start meaning other = if nat_eq other start then Some meaning else None

-- the same by what was found at one name
abbrev pub means_there : Option Meaning → Finding → ℕ → Option Meaning
means_there kept (Means l meaning) other = meaning_there kept l.span.start meaning other
means_there kept finding other = kept
