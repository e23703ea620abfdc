-- What may be there, as a list.
use Rattle.std.specs.Prelude.{List, [], ◌∷◌, Option, Some, None}

-- a list of the one that is there, or of none
abbrev pub listed : {A : Type 0} → Option A → List A
listed None = []
listed (Some a) = a ∷ []
