-- The files of modules by their names.
use Rattle.std.specs.Prelude.{ℕ, ◌+◌, ◌-◌, ◌^◌, List, [], ◌∷◌, ◌++◌, length, ◌&&◌, nat_eq, Option, Some, None, if◌then◌else◌, codes, take}
use Rattle.std.specs.List.{filter_map, ends_with}
use Rattle.tla_lexeme.specs.LexemeSets.{is_identifier}

-- the module that a file stands for, by its name
abbrev pub module_of_file : List ℕ → Option (List ℕ)
module_of_file file =
    if ends_with nat_eq file (codes ".tla") && is_identifier (take (length file - 4) file) then Some (take (length file - 4) file) else None

-- the modules of a listing, in order
abbrev pub modules_of_listing : List (List ℕ) → List (List ℕ)
modules_of_listing names = filter_map module_of_file names

-- the module that a file stands for, if it stands for one, as a list
abbrev pub modules_of_file : List ℕ → List (List ℕ)
modules_of_file file = modules_of_listing (file ∷ [])

-- the file of a module
abbrev pub file_of : List ℕ → List ℕ
file_of name = name ++ codes ".tla"

-- the most bytes that are read of a file: one more than all files of a folder may have together, so that a longer one is seen to be too long
abbrev pub MOST_FILE_BYTES : ℕ
MOST_FILE_BYTES = 2 ^ 25 + 1
