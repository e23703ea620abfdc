-- Declarations as keys of a table: the name of the module, and the place of the declaring name in its text.
use Rattle.std.specs.Prelude.{ℕ, List, [], ◌∷◌, map}
use Rattle.std.specs.Borrow.{Bor}
use Rattle.tla_model.specs.declared.ids.DeclId.{DeclId}
use Rattle.tla_model.specs.Entities.{same_decl}
use Rattle.tla_model.specs.Tables.{added}
use Rattle.tree_tasks.specs.declared.held.Held.{Held}

-- the declaration at a place of a module's text
abbrev pub decl_of : List ℕ → ℕ → DeclId
decl_of title place = record { «module» = title; place = place }

-- where instances lead, by the entries of a table
abbrev pub leads_of : List ((Bor (List ℕ) × ℕ) × Held) → List (DeclId × Held)
leads_of entries = map (λ entry. (decl_of entry.0.0.now entry.0.1, entry.1)) entries

-- a noted instance, as an entry of the definitions
abbrev pub lead : Bor (List ℕ) × ℕ × Held → DeclId × Held
lead noted = (decl_of noted.0.now noted.1, noted.2)

-- where instances lead by these, and else by others
abbrev pub joined_leads : List (DeclId × Held) → List (DeclId × Held) → List (DeclId × Held)
joined_leads leads [] = leads
joined_leads leads (entry ∷ rest) = joined_leads (added same_decl leads entry.0 entry.1) rest
