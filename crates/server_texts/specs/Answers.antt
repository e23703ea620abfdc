-- What is answered to `definition` and to `references`.
use Rattle.std.specs.Prelude.{ℕ, Bool, List, map, Option, option_map, option_and_then}
use Rattle.leveled_facts.specs.Families.{leveled}
use Rattle.leveled_facts.specs.Modules.{Leveled}
use Rattle.lsp_wire.specs.declared.types.Position.{Position}
use Rattle.lsp_wire.specs.declared.types.Reply.{Reply}
use Rattle.lsp_answers.specs.States.{State, ModuleText}
use Rattle.server_documents.specs.Documents.{text_of}
use Rattle.server_locations.specs.Locations.{Found, definition_by, references_by}
use Rattle.server_texts.specs.Notes.{all_texts}
use Rattle.server_uris.specs.Uris.{module_of}

-- ---- what is found of a module

-- a module's text with its resolved uses and its declaring names, in the order of the text; with a fault of bytes, syntax or imports there are none
abbrev pub found_by : ModuleText → Leveled → Found
found_by t found = record { name = t.name; bytes = t.bytes; uses = found.uses; decls = found.decls }

-- what is found of a module of the root
abbrev pub found_in : State → ModuleText → Found
found_in s t = found_by t (leveled (all_texts s.texts) t.name)

-- the same of all modules of the root, in byte order of names
abbrev pub all_found : State → List Found
all_found s = map (found_in s) s.texts

-- ---- the module that a document is

-- a module of the root with its text
abbrev pub module_text : State → List ℕ → Option ModuleText
module_text s name = option_map (λ bytes. record { name = name; bytes = bytes }) (text_of s name)

-- the module that a document is, with its text, if it is a member that has one
abbrev pub module_at : State → List ℕ → Option ModuleText
module_at s uri = option_and_then (module_text s) (module_of s.root uri)

-- ---- replies

-- the reply to `definition` at a place of a document
abbrev pub definition_reply : State → List ℕ → Position → Reply
definition_reply s uri at = definition_by s (all_found s) uri at

-- the reply to `references` at a place of a document
abbrev pub references_reply : State → List ℕ → Position → Bool → Reply
references_reply s uri at declared = references_by s (all_found s) uri at declared
