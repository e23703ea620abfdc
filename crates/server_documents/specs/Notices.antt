-- The notices of open documents, by the notes of their modules.
use Rattle.std.specs.Prelude.{ℕ, Bool, ◌&&◌, ◌==◌, if◌then◌else◌, List, [], ◌∷◌, Some, None, map}
use Rattle.lsp_wire.specs.declared.types.Note.{Note}
use Rattle.lsp_answers.specs.declared.Due.{Due}
use Rattle.lsp_answers.specs.States.{Opened, State, same_area, was_sent}
use Rattle.server_documents.specs.declared.opened.Open.{Open}

-- both notes have the same number and area
abbrev pub same_note : Note → Note → Bool
same_note a b = (a.code == b.code) && same_area a.area b.area

-- the notice of an open document with these notes
abbrev pub due_of : Open → List Note → Due
due_of document notes = record { uri = document.uri; notes = notes }

-- the same, where they differ from those last sent
abbrev pub other_dues : Open → List Note → List Due
other_dues document notes = if was_sent document.sent notes then [] else due_of document notes ∷ []

-- an open document, once the notes of its module are sent
abbrev pub as_sent : (List ℕ → List Note) → Opened → Opened
as_sent notes_of o = record { name = o.name; uri = o.uri; sent = Some (notes_of o.name) }

-- a state, once all notices are sent
abbrev pub after_notices : (List ℕ → List Note) → State → State
after_notices notes_of s = record s { opened = map (as_sent notes_of) s.opened; due = None }
