-- What the files are that a module names.
use Rattle.std.specs.Prelude.{Bool, List, ℕ}
use Rattle.flattened_trees.specs.Leads.{FlatFace}

-- which files are constant, by their faces
abbrev pub constant_files : (List ℕ → FlatFace) → List ℕ → Bool
constant_files faces name = (faces name).is_constant
