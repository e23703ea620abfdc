-- What whoever answers holds, and what its calls make of it.
use Rattle.std.specs.Prelude.{◌≡◌, ℕ, ◌^◌, ◌==◌, nat_lt, Bool, true, false, ◌&&◌, if◌then◌else◌, List, [], ◌∷◌, ◌++◌, length, map, Option, Some, None, Result, Ok, Err, ⊤}
use Rattle.std.specs.List.{sum_by}
use Rattle.std.specs.Ordering.{nat_cmp, match_ordering}
use Rattle.std.specs.Cmp.Lexicographic.{slice_cmp}
use Rattle.tool_io.specs.Folder.{Told}
use Rattle.tool_io.specs.Causes.{Rose}
use Rattle.lsp_wire.specs.declared.types.Area.{Area}
use Rattle.lsp_wire.specs.declared.types.Position.{Position}
use Rattle.lsp_wire.specs.declared.types.Note.{Note}
use Rattle.lsp_wire.specs.declared.types.Change.{Change}
use Rattle.lsp_wire.specs.declared.types.FileEvent.{FileEvent}
use Rattle.lsp_wire.specs.declared.types.Reply.{Reply}
use Rattle.lsp_wire.specs.declared.types.Call.{Call}
use Rattle.lsp_wire.specs.declared.types.Call.TheVariants.{Initialize, Shutdown, Definition, References, Symbols, BadParams, Unknown}
use Rattle.lsp_answers.specs.declared.Due.{Due}
use Rattle.lsp_answers.specs.declared.AnswerFault.{AnswerFault}
use Rattle.lsp_answers.specs.declared.AnswerFault.TheVariants.{Folder, Limit, Memory}

-- a root module's text
pub record ModuleText : Type 0 where
  pub name : List ℕ
  pub bytes : List ℕ

-- an open document: its module, its URI as it was spelled, and the notes last sent for it
pub record Opened : Type 0 where
  pub name : List ℕ
  pub uri : List ℕ
  pub sent : Option (List Note)

-- a document that the last notification opened, changed or closed
pub record Named : Type 0 where
  pub name : List ℕ
  pub uri : List ℕ

-- a root: its text, and the path of its folder where that was read, as the root's URI gave it
pub record Root : Type 0 where
  pub text : List ℕ
  pub path : Option (List ℕ)

-- nothing that is derived from texts is held
pub record State : Type 0 where
  pub root : Option Root
  -- in byte order of names
  pub texts : List ModuleText
  pub opened : List Opened
  -- whose notice is still to be sent
  pub due : Option Named
  -- what the folder holds, where it tells
  pub folder : Option Told

-- the most modules whose texts are held
abbrev pub most_modules : ℕ
most_modules = 1024

-- the most bytes of their texts together
abbrev pub most_bytes : ℕ
most_bytes = 2 ^ 25

-- the bytes of all texts together
abbrev pub bytes_of : List ModuleText → ℕ
bytes_of texts = sum_by (λ text. length text.bytes) texts

-- the limit that a state passes: its modules, or else its bytes
abbrev pub limit_of : State → Option ℕ
limit_of s =
    if nat_lt most_modules (length s.texts) then Some (length s.texts) else (if nat_lt most_bytes (bytes_of s.texts) then Some (bytes_of s.texts) else None)

-- the state after a call, and the limit that the call meets
pub record After : Type 0 where
  pub state : State
  pub limit : Option ℕ

-- a limit is judged when the call is done
abbrev pub judged : State → After
judged s = record { state = s; limit = limit_of s }

-- what calls mean, where limits are not looked at
pub record Meaning : Type 0 where
  -- the client's root is taken, and its folder listed
  pub after_root : State → Option (List ℕ) → State
  -- the modules whose files are then read, one after another
  pub root_modules : State → Option (List ℕ) → List (List ℕ)
  -- a module's file is read
  pub after_read : State → List ℕ → State
  pub after_open : State → List ℕ → List ℕ → State
  pub after_change : State → List ℕ → List Change → State
  -- the document's text after each of the changes
  pub changed_texts : State → List ℕ → List Change → List (List ℕ)
  pub after_close : State → List ℕ → State
  pub after_files : State → List FileEvent → State
  pub notes_of : State → List ℕ → List Note
  pub reply_to : State → Call → Reply

-- what comes after a state, unless a limit is met in it
abbrev pub unless_limit : Option ℕ → State → After → After
unless_limit None s after = after
unless_limit (Some said) s after = record { state = s; limit = Some said }

-- the files of modules are read; a limit is judged before the first read and after each
abbrev pub judged_reads : (State → List ℕ → State) → State → List (List ℕ) → After
judged_reads after_read s [] = judged s
judged_reads after_read s (name ∷ names) = unless_limit (limit_of s) s (judged_reads after_read (after_read s name) names)

-- the client's root is taken, and its folder read
abbrev pub judged_root : Meaning → State → Option (List ℕ) → After
judged_root m s root = judged_reads m.after_read (m.after_root s root) (m.root_modules s root)

-- the length of the first of some texts that alone has too many bytes
abbrev pub first_too_long : List (List ℕ) → Option ℕ
first_too_long [] = None
first_too_long (text ∷ texts) = if nat_lt most_bytes (length text) then Some (length text) else first_too_long texts

-- a document is changed; a limit is judged of its text after each change, and of all when the call is done
abbrev pub judged_change : Meaning → State → List ℕ → List Change → After
judged_change m s uri changes = unless_limit (first_too_long (m.changed_texts s uri changes)) s (judged (m.after_change s uri changes))

-- notes look at the texts alone, and a root that is taken and a file that is read open and close no document
pub record LooksAtTexts (m : Meaning) : Type 0 where
  pub notes : (s t : State) (name : List ℕ) → s.texts ≡ t.texts → m.notes_of s name ≡ m.notes_of t name
  pub root_opened : (s : State) (root : Option (List ℕ)) → (m.after_root s root).opened ≡ s.opened
  pub root_due : (s : State) (root : Option (List ℕ)) → (m.after_root s root).due ≡ s.due
  pub read_opened : (s : State) (name : List ℕ) → (m.after_read s name).opened ≡ s.opened
  pub read_due : (s : State) (name : List ℕ) → (m.after_read s name).due ≡ s.due

-- the answer to a call, and the state that it leaves where it is not refused
abbrev pub IsAfter : After → Result ⊤ AnswerFault → State → Type 0
IsAfter after (Ok _) new = (after.limit ≡ None) × (new ≡ after.state)
IsAfter after (Err Folder) new = ⊤
IsAfter after (Err (Limit said)) new = after.limit ≡ Some said
IsAfter after (Err Memory) new = ⊤

-- a fault of the folder raises its count by one; any other answer leaves the count
abbrev pub HasAnswerCause : {T : Type 0} → ℕ → ℕ → Result T AnswerFault → Type 0
HasAnswerCause before now (Ok _) = now ≡ before
HasAnswerCause before now (Err Folder) = Rose before now
HasAnswerCause before now (Err (Limit said)) = now ≡ before
HasAnswerCause before now (Err Memory) = now ≡ before

-- what is asked of the texts
abbrev pub IsQuestion : Call → Type 0
IsQuestion (Initialize root) = ⊥
IsQuestion Shutdown = ⊥
IsQuestion (Definition uri at) = ⊤
IsQuestion (References uri at declared) = ⊤
IsQuestion (Symbols uri) = ⊤
IsQuestion BadParams = ⊥
IsQuestion Unknown = ⊥

-- both are the same line, and the same unit of it
abbrev pub same_position : Position → Position → Bool
same_position a b = (a.line == b.line) && (a.unit == b.unit)

-- both have the same ends
abbrev pub same_area : Area → Area → Bool
same_area a b = same_position a.start b.start && same_position a.end b.end

-- notes are compared by their numbers and areas
abbrev pub same_notes : List Note → List Note → Bool
same_notes [] [] = true
same_notes [] (b ∷ bs) = false
same_notes (a ∷ rest) [] = false
same_notes (a ∷ rest) (b ∷ bs) = (a.code == b.code) && same_area a.area b.area && same_notes rest bs

-- these are the notes that were last sent, if some were
abbrev pub was_sent : Option (List Note) → List Note → Bool
was_sent None notes = false
was_sent (Some sent) notes = same_notes sent notes

-- an open document gets the notes of its module
abbrev pub notice : (List ℕ → List Note) → Opened → Due
notice notes o = record { uri = o.uri; notes = notes o.name }

-- a closed document's notes are taken back
abbrev pub closing : Named → Due
closing d = record { uri = d.uri; notes = [] }

-- another document gets a notice where its notes differ from those last sent
abbrev pub others_notice : (List ℕ → List Note) → Opened → List Due
others_notice notes o = if was_sent o.sent (notes o.name) then [] else notice notes o ∷ []

-- the same of several documents
abbrev pub others_notices : (List ℕ → List Note) → List Opened → List Due
others_notices notes [] = []
others_notices notes (o ∷ os) = others_notice notes o ++ others_notices notes os

-- the same with the named document, which gets a notice in any case: without notes where it is closed
abbrev pub all_notices : (List ℕ → List Note) → Named → List Opened → List Due
all_notices notes d [] = closing d ∷ []
all_notices notes d (o ∷ os) =
    match_ordering (slice_cmp nat_cmp d.name o.name) (closing d ∷ (others_notice notes o ++ others_notices notes os)) (notice notes o ∷ others_notices notes os) (others_notice notes o ++ all_notices notes d os)

-- all notices, with a document that was named or without one
abbrev pub notices : (List ℕ → List Note) → Option Named → List Opened → List Due
notices notes None os = others_notices notes os
notices notes (Some d) os = all_notices notes d os

-- the notices to send, in byte order of names
abbrev pub dues_of : (State → List ℕ → List Note) → State → List Due
dues_of notes_of s = notices (notes_of s) s.due s.opened

-- and the state once they are sent
abbrev pub after_dues : (State → List ℕ → List Note) → State → State
after_dues notes_of s =
    record s {
      opened = map (λ o. record { name = o.name; uri = o.uri; sent = Some (notes_of s o.name) }) s.opened;
      due = None;
    }
