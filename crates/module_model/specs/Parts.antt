-- The instances that a face reaches, in parts: by the text that declares them, and by the places of their names there.
use Rattle.std.specs.Prelude.{◌≡◌, ℕ, List, Option, None, Some, if◌then◌else◌, map, nat_eq, string_bytes, String}
use Rattle.std.specs.Option.{option_or}
use Rattle.std.specs.Arc.{arc_value}
use Rattle.std.specs.Borrow.{Bor}
use Rattle.std.specs.Str.{bytes_eq}
use Rattle.std.specs.declared.alloc.Global.{Global}
use Rattle.std.specs.declared.sync.Arc.{Arc}
use Rattle.tla_model.specs.declared.ids.DeclId.{DeclId}
use Rattle.tla_model.specs.Entities.{Meaning}
use Rattle.tla_model.specs.Tables.{Table, lookup}

-- instances of a text by the places of their names, each with what its module exports
abbrev pub InText : Type 0
InText = List (ℕ × Table Meaning)

-- instances by the modules whose texts declare them
abbrev pub ByText : Type 0
ByText = List (List ℕ × InText)

-- the instances of a text, whose tables are shared
abbrev pub in_text : {Z : Type 0} → List (ℕ × Arc (Table Meaning) Z) → InText
in_text entries = map (λ entry. (entry.0, arc_value entry.1)) entries

-- the instances of parts, which are shared
abbrev pub by_text : {Z : Type 0} → List (String Global × Arc InText Z) → ByText
by_text parts = map (λ part. (string_bytes part.0, arc_value part.1)) parts

-- what the module exports of which the instance at a place is one
abbrev pub in_part : Option InText → ℕ → Option (Table Meaning)
in_part None place = None
in_part (Some instances) place = lookup nat_eq instances place

-- what the module exports of which the instance of a declaration is one, if it is reached
abbrev pub reached : ByText → DeclId → Option (Table Meaning)
reached parts decl = in_part (lookup bytes_eq parts decl.«module») decl.place

-- what a shared table shows
abbrev pub table_shown : {Z : Type 0} → Option (Bor (Arc (Table Meaning) Z)) → Option (Table Meaning)
table_shown None = None
table_shown (Some table) = Some (arc_value table.now)

-- an instance of a text with what its module exports, as it is shown
abbrev pub instance_shown : {Z : Type 0} → ℕ × Bor (Arc (Table Meaning) Z) → ℕ × Table Meaning
instance_shown (place, exports) = (place, arc_value exports.now)

-- a part with the module whose text it is of, as it is shown
abbrev pub part_shown : {Z : Type 0} → Bor (List ℕ) × Bor (Arc InText Z) → List ℕ × InText
part_shown (title, part) = (title.now, arc_value part.now)

-- these are those of the first, with those of the others that are not among them
abbrev pub AreJoined : ByText → ByText → ByText → Type 0
AreJoined new first others = (decl : DeclId) → reached new decl ≡ option_or (reached first decl) (reached others decl)

-- the instances of a text are those of the first, with those of the other that are not among them
abbrev pub AreUnited : InText → InText → InText → Type 0
AreUnited new first other = (place : ℕ) → lookup nat_eq new place ≡ option_or (lookup nat_eq first place) (lookup nat_eq other place)

-- this is the part of a text, and the parts of the others are as they were
abbrev pub IsSet : ByText → ByText → List ℕ → InText → Type 0
IsSet new old title part = (other : List ℕ) → lookup bytes_eq new other ≡ (if bytes_eq other title then Some part else lookup bytes_eq old other)
