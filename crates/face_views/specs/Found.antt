-- When the instances of parts are among those of others.
use Rattle.std.specs.Prelude.{◌≡◌, ℕ, Option, None, Some}
use Rattle.std.specs.Arc.{arc_value}
use Rattle.std.specs.Borrow.{Bor}
use Rattle.std.specs.declared.sync.Arc.{Arc}
use Rattle.tla_model.specs.declared.ids.DeclId.{DeclId}
use Rattle.tla_model.specs.Entities.{Meaning}
use Rattle.tla_model.specs.Tables.{Table}
use Rattle.module_model.specs.Exports.{instances_in}
use Rattle.module_model.specs.Parts.{ByText, InText, in_part, reached}

-- what a shared part shows
abbrev pub text_shown : {Z : Type 0} → Option (Bor (Arc InText Z)) → Option InText
text_shown None = None
text_shown (Some part) = Some (arc_value part.now)

-- the instance at a place of a part is in the other, and its module exports the same
abbrev pub IsFound : Option InText → Option InText → ℕ → Type 0
IsFound part other place =
    (table : Table Meaning) → in_part part place ≡ Some table → in_part other place ≡ Some table

-- the instances of a part are in the other, and their modules export the same
abbrev pub AreFound : Option InText → Option InText → Type 0
AreFound part other = (place : ℕ) → IsFound part other place

-- the part has no instance at a place where the other has none
abbrev pub IsWithin : Option InText → Option InText → ℕ → Type 0
IsWithin part other place = in_part other place ≡ None → in_part part place ≡ None

-- the part has no instance that is not in the other
abbrev pub AreWithin : Option InText → Option InText → Type 0
AreWithin part other = (place : ℕ) → IsWithin part other place

-- all instances are among those of others, and their modules export the same
abbrev pub AllAreFound : ByText → ByText → Type 0
AllAreFound parts others =
    (decl : DeclId) → (table : Table Meaning) →
    reached parts decl ≡ Some table → reached others decl ≡ Some table

-- there is no instance that is not among those of others
abbrev pub AllAreWithin : ByText → ByText → Type 0
AllAreWithin parts others = (decl : DeclId) → reached others decl ≡ None → reached parts decl ≡ None

-- both have the same instances, and their modules export the same
abbrev pub AreSame : ByText → ByText → Type 0
AreSame one other = (decl : DeclId) → instances_in one decl ≡ instances_in other decl
