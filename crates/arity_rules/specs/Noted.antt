-- How the meanings of names are kept: under where each begins.
use Rattle.std.specs.Prelude.{◌≡◌, ℕ, List, [], ◌∷◌, Option, Some, None, if◌then◌else◌, nat_eq}
use Rattle.std.specs.Option.{option_or}
use Rattle.std.specs.List.{list_any}
use Rattle.std.specs.Map.{lookup}
use Rattle.tla_model.specs.declared.Diagnostic.{Diagnostic}
use Rattle.tla_model.specs.declared.entity.Use.{Use}
use Rattle.tla_model.specs.Entities.{Entity}
use Rattle.arity_rules.specs.Arities.{is_unknown, or_built_in}

-- the entities of uses, under where the uses begin
abbrev pub declarations : List Use → List Entity → List (ℕ × Entity)
declarations (u ∷ uses) (e ∷ entities) = (u.name.start, e) ∷ declarations uses entities
declarations _ _ = []

-- one more name, with its entity
abbrev pub only : ℕ → Entity → ℕ → Option Entity
only start e x = if nat_eq x start then Some e else None

-- the entries say the same as the declarations
abbrev pub AreDeclared : List (ℕ × Entity) → List (ℕ × Entity) → Type 0
AreDeclared entries declarations = (start : ℕ) → lookup (nat_eq start) entries ≡ lookup (nat_eq start) declarations

-- the name that begins here is noted, unless one was before
abbrev pub IsDeclared : ℕ → Entity → List (ℕ × Entity) → List (ℕ × Entity) → Type 0
IsDeclared start e old new = (x : ℕ) → lookup (nat_eq x) new ≡ option_or (lookup (nat_eq x) old) (only start e x)

-- these are the names of which faults say that they mean nothing
abbrev pub AreUnknown : List ℕ → List Diagnostic → Type 0
AreUnknown keys faults = (start : ℕ) → list_any (nat_eq start) keys ≡ is_unknown faults start

-- what is noted of names: the entities that they mean, and where those begin that mean nothing
pub record Notes : Type 0 where
  pub declared : List (ℕ × Entity)
  pub unknown : List ℕ

-- what a name means that begins here, by what is noted
abbrev pub told : Notes → ℕ → Option Entity
told notes start = or_built_in (lookup (nat_eq start) notes.declared) (list_any (nat_eq start) notes.unknown)

-- the same by uses with their entities, and by faults of names
abbrev pub meaning_by : List Use → List Entity → List Diagnostic → ℕ → Option Entity
meaning_by uses entities faults start = or_built_in (lookup (nat_eq start) (declarations uses entities)) (is_unknown faults start)
