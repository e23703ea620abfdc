-- Trees that are kept for the next check of a family.
use Rattle.std.specs.Prelude.{◌≡◌, ℕ, List, Some}
use Rattle.tla_tree.specs.declared.unit.ModuleTree.{ModuleTree}
use Rattle.family_tables.specs.Modules.{IsTreeOf}
use Rattle.family_tables.specs.Tables.{entry_of}

-- the tree is one of a module of this name
abbrev pub IsRead : List ℕ → ModuleTree → Type 0
IsRead name tree = (bytes : List ℕ) × IsTreeOf name bytes tree

-- so it is under each name
abbrev pub AreRead : List (List ℕ × ModuleTree) → Type 0
AreRead trees = (name : List ℕ) (tree : ModuleTree) → entry_of trees name ≡ Some tree → IsRead name tree
