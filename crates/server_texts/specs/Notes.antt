-- The notes of a document: what is found of its module among the root's texts and the built-in modules.
use Rattle.std.specs.Prelude.{ℕ, List, [], map, Option, Some, None}
use Rattle.fact_values.specs.Names.{Texts}
use Rattle.family_facts.specs.declared.verdict.File.{File}
use Rattle.family_facts.specs.declared.verdict.Verdict.{Verdict}
use Rattle.family_facts.specs.Facts.{texts_of}
use Rattle.family_facts.specs.Verdicts.{family_of}
use Rattle.leveled_facts.specs.Families.{verdict_on}
use Rattle.lsp_wire.specs.declared.types.Note.{Note}
use Rattle.lsp_answers.specs.States.{State, ModuleText}
use Rattle.server_notes.specs.Areas.{notes_on}
use Rattle.server_documents.specs.Documents.{text_of}

-- ---- texts

-- the file that a module's text is
abbrev pub file_of_text : ModuleText → File
file_of_text t = record { name = t.name; bytes = t.bytes }

-- the files that texts are
abbrev pub files_of : List ModuleText → List File
files_of texts = map file_of_text texts

-- the texts of the root over those of the built-in modules
abbrev pub all_texts : List ModuleText → Texts
all_texts texts = texts_of (family_of (files_of texts))

-- ---- notes

-- the notes of a verdict, in its order
abbrev pub notes_of_verdict : Verdict → List Note
notes_of_verdict verdict = notes_on verdict.text verdict.faults

-- the notes of a text of this name
abbrev pub notes_in : List ModuleText → List ℕ → Option (List ℕ) → List Note
notes_in texts name None = []
notes_in texts name (Some bytes) = notes_of_verdict (verdict_on (all_texts texts) (record { name = name; bytes = bytes }))

-- the notes of a module; without a text it has none
abbrev pub notes_of : State → List ℕ → List Note
notes_of s name = notes_in s.texts name (text_of s name)
