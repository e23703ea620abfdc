-- What is found of texts.
use Rattle.std.specs.Prelude.{◌≡◌, ℕ, List, Contains}
use Rattle.family_levels.specs.Findings.{decls_in, uses_in}
use Rattle.family_levels.specs.Telling.{IsFound}
use Rattle.family_levels.specs.declared.findings.Findings.{Findings}
use Rattle.lsp_answers.specs.States.{ModuleText}
use Rattle.server_locations.specs.Locations.{Found}
use Rattle.server_texts.specs.Notes.{file_of_text, files_of}

-- what was found of a text among these and the built-in modules; its faults and names stand in it
abbrev pub IsFoundOf : List ModuleText → Findings → ModuleText → Type 0
IsFoundOf texts found t = IsFound (files_of texts) found (file_of_text t)

-- the same of all of them
abbrev pub AreFound : List ModuleText → Findings → Type 0
AreFound texts found = (t : ModuleText) → Contains texts t → IsFoundOf texts found t

-- of that of a name, if there is one
abbrev pub IsNameFound : List ModuleText → Findings → List ℕ → Type 0
IsNameFound texts found name = (t : ModuleText) → Contains texts t → t.name ≡ name → IsFoundOf texts found t

-- and of those of these names
abbrev pub AreNamesFound : List ModuleText → Findings → List (List ℕ) → Type 0
AreNamesFound texts found names = (name : List ℕ) → Contains names name → IsNameFound texts found name

-- what is found of a module of the root
abbrev pub found_of : Findings → ModuleText → Found
found_of found t = record { name = t.name; bytes = t.bytes; uses = uses_in found t.name; decls = decls_in found t.name }
