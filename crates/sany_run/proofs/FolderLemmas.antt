-- The files of a folder within the limits.
use Rattle.std.proofs.Common.{◌≡◌, ℕ, List, Option, Some, None, IfSome, subst, if◌then◌else◌, Bool, true, false, nat_lt, length}
use Rattle.tool_io.specs.Folder.{Told, after_call}
use Rattle.family_facts.specs.declared.verdict.File.{File}
use Rattle.sany_files.specs.Files.{MOST_BYTES, MOST_MODULES, byte_count, files_of, module_names}
use Rattle.sany_files.specs.Reading.{files_within}

some_within : (many large : Bool) (files found : List File) → Some found ≡ (if many then None else (if large then None else Some files)) → found ≡ files
some_within true large files found e = absurd (cc)
some_within false true files found e = absurd (cc)
some_within false false files found e = cc

files_within-some : (t : Told) (path : List ℕ) (found : List File) → Some found ≡ files_within t path → found ≡ files_of t path
files_within-some t path found e = some_within (nat_lt MOST_MODULES (length (module_names (after_call t) path))) (nat_lt MOST_BYTES (byte_count (files_of t path))) (files_of t path) found e

-- what holds of the files that were read holds of the folder's
pub of_folder : (P : List File → Type 0) (holds : Option Told) (path : List ℕ) (files : List File) → IfSome holds (λ t. Some files ≡ files_within t path) → P files → IfSome holds (λ t. P (files_of t path))
of_folder P None path files is p = tt
of_folder P (Some t) path files is p = subst P (files_within-some t path files is) p
