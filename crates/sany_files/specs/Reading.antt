-- Parts of the reading of a folder.
use Rattle.std.specs.Prelude.{◌≡◌, ◌<◌, ℕ, List, [], ◌∷◌, length, Option, Some, None, Result, Ok, Err, if◌then◌else◌, nat_lt, slice_get}
use Rattle.tool_io.specs.Folder.{Told, after_call}
use Rattle.tool_io.specs.declared.IoFault.{IoFault}
use Rattle.family_facts.specs.declared.verdict.File.{File}
use Rattle.file_names.specs.Files.{modules_of_listing}
use Rattle.sany_files.specs.Files.{module_names, byte_count, files_of, MOST_BYTES, MOST_MODULES}
use Rattle.sany_files.specs.Calls.{after_calls, calls_of_folder, reads_made}

-- the files are of the first so many names
abbrev pub AreNamed : List File → List (List ℕ) → ℕ → Type 0
AreNamed files names count = (i : ℕ) (f : File) → slice_get files i ≡ Some f → (at : ℕ) × (at < count) × (slice_get names at ≡ Some f.name)

-- files that have not too many bytes
abbrev pub within : List File → Option (List File)
within files = if nat_lt MOST_BYTES (byte_count files) then None else Some files

-- the files of a folder, where no limit is passed
abbrev pub files_within : Told → List ℕ → Option (List File)
files_within t folder = if nat_lt MOST_MODULES (length (module_names (after_call t) folder)) then None else within (files_of t folder)

-- what a folder holds after the reads of modules
abbrev pub after_reads : List ℕ → List (List ℕ) → Told → Told
after_reads folder names t = after_calls (reads_made 0 t folder names) t

-- what a folder holds after its listing and the reads
abbrev pub after_folder : List ℕ → Told → Told
after_folder folder t = after_calls (calls_of_folder t folder) t

-- the only fault is want of memory
abbrev pub OnlyMemory : {T : Type 0} → Result T IoFault → Type 0
OnlyMemory (Ok value) = Unit {0}
OnlyMemory (Err fault) = fault ≡ IoFault.Memory
