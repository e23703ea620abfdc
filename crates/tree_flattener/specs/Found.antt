-- What code finds of names, as the definitions have it.
use Rattle.std.specs.Prelude.{ℕ, List, [], ◌∷◌, Option, Some, None, if◌then◌else◌, nat_eq}
use Rattle.tla_model.specs.Entities.{Meaning}
use Rattle.flattened_trees.specs.Leads as leads
use Rattle.tree_flattener.specs.declared.names.Lead as found
use Rattle.tree_flattener.specs.declared.locals.Entry.{Entry}
use Rattle.tree_flattener.specs.declared.locals.Local.{Local}

-- where a name leads
abbrev pub lead_in : found.Lead → leads.Lead
lead_in lead = record { path = lead.path.items; end = lead.end }

-- the symbols that may be listed
abbrev pub listed_in : Option (List Meaning) → List Meaning
listed_in None = []
listed_in (Some meanings) = meanings

-- the last of the entries with this place, or what was found before them
abbrev pub local_in : Option Local → List Entry → ℕ → Option Local
local_in before [] place = before
local_in before (entry ∷ rest) place = local_in (if nat_eq place entry.place then Some entry.local else before) rest place
