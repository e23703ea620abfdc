-- Which calls of the folder are made, and how they leave it.
use Rattle.std.specs.Prelude.{◌≡◌, ◌≤◌, ℕ, zero, suc, ◌+◌, List, [], ◌∷◌, length, nat_lt, Option, Some, None, if◌then◌else◌}
use Rattle.tool_io.specs.Folder.{Told, after_call, read_at}
use Rattle.sany_words.specs.Words.{request_of}
use Rattle.sany_words.specs.declared.request.Request.{Request}
use Rattle.file_names.specs.Files.{MOST_FILE_BYTES, file_of}
use Rattle.sany_files.specs.Files.{module_names, MOST_BYTES, MOST_MODULES}

-- what a folder holds after so many calls
abbrev pub after_calls : ℕ → Told → Told
after_calls zero t = t
after_calls (suc n) t = after_calls n (after_call t)

-- how many bytes were read
abbrev pub read_len : Option (List ℕ) → ℕ
read_len None = 0
read_len (Some bytes) = length bytes

-- how many bytes of a module's file the next call reads
abbrev pub next_len : Told → List ℕ → List ℕ → ℕ
next_len t folder name = read_len (read_at (after_call t) folder (file_of name) MOST_FILE_BYTES)

-- how many of the modules are read after so many bytes: the least number with which the bytes pass the limit, or all
abbrev pub reads_made : ℕ → Told → List ℕ → List (List ℕ) → ℕ
reads_made bytes t folder [] = 0
reads_made bytes t folder (name ∷ names) =
    if nat_lt MOST_BYTES (bytes + next_len t folder name) then 1 else suc (reads_made (bytes + next_len t folder name) (after_call t) folder names)

-- how many modules of a listing are read: none where they are too many
abbrev pub reads_of_listing : Told → List ℕ → List (List ℕ) → ℕ
reads_of_listing t folder names = if nat_lt MOST_MODULES (length names) then 0 else reads_made 0 t folder names

-- the calls for a folder: one listing, and the reads
abbrev pub calls_of_folder : Told → List ℕ → ℕ
calls_of_folder t folder = suc (reads_of_listing (after_call t) folder (module_names (after_call t) folder))

-- the calls for what is asked for: none where that is no folder
abbrev pub calls_of_request : Told → Option Request → ℕ
calls_of_request t (Some (Request.Check folder facts)) = calls_of_folder t folder
calls_of_request t _ = 0

-- how many calls of the folder the program makes: none behind the one with which a limit is passed
abbrev pub calls_made : List (List ℕ) → Told → ℕ
calls_made words t = calls_of_request t (request_of words)

-- what the folder holds after what is asked for
abbrev pub told_after_request : Option Request → Told → Told
told_after_request request t = after_calls (calls_of_request t request) t

-- what the folder holds after the program
abbrev pub told_after : List (List ℕ) → Told → Told
told_after words t = told_after_request (request_of words) t

-- a folder is left as some number of calls leaves it, not below the least and not above the most
pub record IsLeftAfter (least most : ℕ) (t : Told) (new : Option Told) : Type 0 where
  pub calls : ℕ
  pub many : least ≤ calls
  pub few : calls ≤ most
  pub left : new ≡ Some (after_calls calls t)
