-- Contexts: names with what they mean at a place. A use means what first took the name.
use Rattle.std.specs.Prelude.{List, [], ◌∷◌, Option, Some, None, codes}
use Rattle.tla_model.specs.Tables.{Table, Named, find, put}
use Rattle.tla_model.specs.Entities.{Meaning, BuiltIn, Binder, Text, meant, name_of}

-- a name that is taken and can't be used yet means nothing
abbrev pub Context : Type 0
Context = Table (Option Meaning)

-- what stands under a name, if something does and it can be used
abbrev pub usable : Option (Option Meaning) → Option Meaning
usable None = None
usable (Some meaning) = meaning

-- what a use of the name means
abbrev pub meaning_of : Context → Named → Option Meaning
meaning_of context name = usable (find context name)

-- before all names of a module
abbrev pub built_in : Context
built_in = record { words = (codes "TRUE", Some BuiltIn) ∷ (codes "FALSE", Some BuiltIn) ∷ (codes "BOOLEAN", Some BuiltIn) ∷ (codes "STRING", Some BuiltIn) ∷ []; symbols = [] }

-- a declared or bound name means itself from here on, unless the name is taken
abbrev pub bind : Text → Context → Binder → Context
bind text context binder = put context (name_of text.source binder.name) (Some (meant text binder))

-- the same of several names, one after another
abbrev pub bind_all : Text → Context → List Binder → Context
bind_all text context [] = context
bind_all text context (binder ∷ rest) = bind_all text (bind text context binder) rest

-- names that are being defined are taken, and can't be used
abbrev pub reserve_all : Text → Context → List Binder → Context
reserve_all text context [] = context
reserve_all text context (binder ∷ rest) = reserve_all text (put context (name_of text.source binder.name) None) rest
