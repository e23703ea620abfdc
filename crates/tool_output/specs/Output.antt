-- What is written of some bytes, and what a status tells of an object.
use Rattle.std.specs.Prelude.{◌≡◌, ◌≢◌, ℕ, List, [], ◌++◌, Option, Result, Ok, Err}
use Rattle.std.specs.Io.KnownBytes.{Appends}
use Rattle.tool_io.specs.Causes.{Rose}

-- known bytes grow by some bytes from the front
abbrev pub AppendsFront : Option (List ℕ) → Option (List ℕ) → List ℕ → Type 0
AppendsFront old new bytes = (front : List ℕ) × (rest : List ℕ) × (bytes ≡ front ++ rest) × Appends old new front

-- known bytes grow by some bytes from the front, and not by all
abbrev pub AppendsSome : Option (List ℕ) → Option (List ℕ) → List ℕ → Type 0
AppendsSome old new bytes =
    (front : List ℕ) × (rest : List ℕ) × (bytes ≡ front ++ rest) × (rest ≢ []) × Appends old new front

-- all bytes are written, or some from the front and not all where the writer fails
abbrev pub Writes : {T E : Type 0} → Option (List ℕ) → Option (List ℕ) → Result T E → List ℕ → Type 0
Writes old new (Ok _) bytes = Appends old new bytes
Writes old new (Err _) bytes = AppendsSome old new bytes

-- this status comes only where the count rose by one, and otherwise the count stays
pub record TellsFault (fault status before now : ℕ) : Type 0 where
  pub rose : status ≡ fault → Rose before now
  pub stays : status ≢ fault → now ≡ before
