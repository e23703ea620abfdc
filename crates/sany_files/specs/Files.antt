-- The module files of a folder, and those of what the words ask for.
use Rattle.std.specs.Prelude.{ℕ, ◌+◌, ◌-◌, ◌^◌, List, [], ◌∷◌, ◌++◌, length, Bool, false, ◌||◌, ◌&&◌, nat_lt, nat_eq, Option, Some, None, if◌then◌else◌, codes, take, sum_by}
use Rattle.std.specs.List.{filter_map, ends_with}
use Rattle.tool_io.specs.Folder.{Told, after_call, names_at, read_at}
use Rattle.family_facts.specs.declared.verdict.File.{File}
use Rattle.gen_texts.specs.Generated.{generated}
use Rattle.sany_words.specs.Words.{request_of}
use Rattle.sany_words.specs.declared.request.Request.{Request}
use Rattle.file_names.specs.Files.{MOST_FILE_BYTES, file_of, modules_of_listing}

-- the modules of a folder, by one listing of it
abbrev pub module_names : Told → List ℕ → List (List ℕ)
module_names t folder = modules_of_listing (names_at t folder)

-- a file that is gone is no module
abbrev pub with_read : List ℕ → Option (List ℕ) → List File → List File
with_read name None files = files
with_read name (Some bytes) files = record { name = name; bytes = bytes } ∷ files

-- the files that one read of each module gives, in order
abbrev pub reads : Told → List ℕ → List (List ℕ) → List File
reads t folder [] = []
reads t folder (name ∷ names) = with_read name (read_at (after_call t) folder (file_of name) MOST_FILE_BYTES) (reads (after_call t) folder names)

-- the files of a folder: one listing, and one read of each module
abbrev pub files_of : Told → List ℕ → List File
files_of t folder = reads (after_call t) folder (module_names (after_call t) folder)

-- the files that are asked for: those of a folder, those that are made, or none
abbrev pub files_of_request : Told → Option Request → List File
files_of_request t (Some (Request.Check folder facts)) = files_of t folder
files_of_request t (Some (Request.Generate count)) = generated count
files_of_request t _ = []

-- the files that the words ask to check
abbrev pub files_in : List (List ℕ) → Told → List File
files_in words t = files_of_request t (request_of words)

-- ---- limits

-- the most modules of a folder, and the most bytes of them all
abbrev pub MOST_MODULES : ℕ
MOST_MODULES = 1024

-- the most bytes of all files of a folder
abbrev pub MOST_BYTES : ℕ
MOST_BYTES = 2 ^ 25

-- the bytes of all files
abbrev pub byte_count : List File → ℕ
byte_count files = sum_by (λ f. length f.bytes) files

-- a folder has too many modules, or too many bytes in them
abbrev pub is_over_folder : Told → List ℕ → Bool
is_over_folder t folder = nat_lt MOST_MODULES (length (module_names (after_call t) folder)) || nat_lt MOST_BYTES (byte_count (files_of t folder))

-- a folder is asked for with too much in it
abbrev pub is_over_request : Told → Option Request → Bool
is_over_request t (Some (Request.Check folder facts)) = is_over_folder t folder
is_over_request t _ = false

-- a limit is passed
abbrev pub is_over : List (List ℕ) → Told → Bool
is_over words t = is_over_request t (request_of words)
