-- What each call leaves: the root, the texts of the root's modules, and the open documents.
use Rattle.std.specs.Prelude.{ℕ, Bool, true, false, if◌then◌else◌, not, List, [], ◌∷◌, filter, Option, Some, None, IsSome, is_some, option_map, option_and_then}
use Rattle.std.specs.List.{find}
use Rattle.std.specs.Option.{option_or}
use Rattle.std.specs.Str.{bytes_eq}
use Rattle.std.specs.Ordering.{nat_cmp, match_ordering}
use Rattle.std.specs.Cmp.Lexicographic.{slice_cmp}
use Rattle.tool_io.specs.Folder.{Told, after_call, names_at, read_at}
use Rattle.lsp_wire.specs.declared.types.Change.{Change}
use Rattle.lsp_wire.specs.declared.types.FileEvent.{FileEvent}
use Rattle.doc_edit.specs.Edits.{after_changes, first_backward}
use Rattle.doc_edit.specs.Edits as edits
use Rattle.lsp_answers.specs.States.{State, Root, Opened}
use Rattle.file_names.specs.Files.{MOST_FILE_BYTES, file_of, modules_of_listing}
use Rattle.server_uris.specs.Uris.{client_root_of, document_root, module_of}

-- ---- by name

-- in byte order of names an item is put in its place, or in that of the item of its name
abbrev pub put : {A : Type 0} → (A → List ℕ) → A → List A → List A
put name_of x [] = x ∷ []
put name_of x (y ∷ ys) =
    match_ordering (slice_cmp nat_cmp (name_of x) (name_of y)) (x ∷ y ∷ ys) (x ∷ ys) (y ∷ put name_of x ys)

-- the others
abbrev pub without : {A : Type 0} → (A → List ℕ) → List ℕ → List A → List A
without name_of name ys = filter (λ y. not (bytes_eq name (name_of y))) ys

-- the item of a name, if there is one
abbrev pub named : {A : Type 0} → (A → List ℕ) → List ℕ → List A → Option A
named name_of name ys = find (λ y. bytes_eq name (name_of y)) ys

-- the open document that is a module
abbrev pub opened_as : State → List ℕ → Option Opened
opened_as s name = named (λ o. o.name) name s.opened

-- the module that an open document is, under whatever spelling of its URI
abbrev pub opened_at : State → List ℕ → Option Opened
opened_at s uri = option_and_then (opened_as s) (module_of s.root uri)

-- the text of a module of the root
abbrev pub text_of : State → List ℕ → Option (List ℕ)
text_of s name = option_map (λ t. t.bytes) (named (λ t. t.name) name s.texts)

-- ---- texts

-- a module gets a text, or loses the one that it has
abbrev pub with_text : State → List ℕ → Option (List ℕ) → State
with_text s name None = record s { texts = without (λ t. t.name) name s.texts }
with_text s name (Some bytes) = record s { texts = put (λ t. t.name) (record { name = name; bytes = bytes }) s.texts }

-- the folder is called once more
abbrev pub called : State → State
called s = record s { folder = option_map after_call s.folder }

-- the modules that a listing of a folder tells, in byte order
abbrev pub names_in : Option Told → List ℕ → List (List ℕ)
names_in None path = []
names_in (Some told) path = modules_of_listing (names_at told path)

-- what a read of a module's file tells, if it is there
abbrev pub file_in : Option Told → List ℕ → List ℕ → Option (List ℕ)
file_in None path name = None
file_in (Some told) path name = read_at told path (file_of name) MOST_FILE_BYTES

-- a module's file is read once, and the module has its text, or none where it is not there
abbrev pub after_read : State → List ℕ → List ℕ → State
after_read s path name = with_text (called s) name (file_in (called s).folder path name)

-- a module has its file's text, where a folder was read, or else none
abbrev pub from_folder : State → List ℕ → Option (List ℕ) → State
from_folder s name None = with_text s name None
from_folder s name (Some path) = after_read s path name

-- the path of the folder that was read
abbrev pub path_of : State → Option (List ℕ)
path_of s = option_and_then (λ r. r.path) s.root

-- a module whose document is not open has its file's text, by the folder that was read
abbrev pub with_file : State → List ℕ → State
with_file s name = if is_some (opened_as s name) then s else from_folder s name (path_of s)

-- ---- the root

-- the folder is listed once, where a root names one
abbrev pub listed : State → Option (List ℕ) → State
listed s None = s
listed s (Some path) = called s

-- the client's root is taken, if it is a URL, and its folder listed
abbrev pub with_client_root : State → Option Root → State
with_client_root s None = s
with_client_root s (Some root) = listed (record s { root = Some root }) root.path

-- the client names its root, or none
abbrev pub after_root : State → Option (List ℕ) → State
after_root s uri = with_client_root s (option_and_then client_root_of uri)

-- the modules that the listing tells of
abbrev pub modules_in : State → Option (List ℕ) → List (List ℕ)
modules_in s None = []
modules_in s (Some path) = names_in (called s).folder path

-- the modules whose files are then read, in byte order of names
abbrev pub root_modules : State → Option (List ℕ) → List (List ℕ)
root_modules s uri = modules_in s (option_and_then (λ r. r.path) (option_and_then client_root_of uri))

-- ---- documents

-- there is a root
abbrev pub IsRooted : State → Type 0
IsRooted s = IsSome s.root

-- where there is no root, the document makes one
abbrev pub rooted : State → List ℕ → State
rooted s uri = record s { root = option_or s.root (document_root uri) }

-- a module's document is open with this text, none of its notes are sent, and its notice is due
abbrev pub with_opened : State → List ℕ → List ℕ → Option (List ℕ) → State
with_opened s uri text None = s
with_opened s uri text (Some name) =
    record (with_text s name (Some text)) {
      opened = put (λ o. o.name) (record { name = name; uri = uri; sent = None }) s.opened;
      due = Some (record { name = name; uri = uri });
    }

-- a document is opened with a text; one that is no member is ignored
abbrev pub after_open : State → List ℕ → List ℕ → State
after_open s uri text = with_opened (rooted s uri) uri text (module_of (rooted s uri).root uri)

-- the notice of an open document is due
abbrev pub with_due : State → Opened → State
with_due s o = record s { due = Some (record { name = o.name; uri = o.uri }) }

-- an open document and its text
pub record Edited : Type 0 where
  pub opened : Opened
  pub text : List ℕ

-- the document with its text, if it is open and has one
abbrev pub with_its_text : State → Option Opened → Option Edited
with_its_text s None = None
with_its_text s (Some o) = option_map (λ text. record { opened = o; text = text }) (text_of s o.name)

-- changes of which one is backward change nothing
abbrev pub edited_if : Option ℕ → State → Option Opened → Option Edited
edited_if None s o = with_its_text s o
edited_if (Some index) s o = None

-- what changes of a document change, if they change anything
abbrev pub edited_at : State → List ℕ → List Change → Option Edited
edited_at s uri changes = edited_if (first_backward changes) s (opened_at s uri)

-- the document has the text that its changes make, and its notice is due
abbrev pub with_changes : State → List Change → Option Edited → State
with_changes s changes None = s
with_changes s changes (Some e) = with_due (with_text s e.opened.name (Some (after_changes e.text changes))) e.opened

-- a document is changed; one that is not open is ignored
abbrev pub after_change : State → List ℕ → List Change → State
after_change s uri changes = with_changes s changes (edited_at s uri changes)

-- a text after each of its changes
abbrev pub texts_after : List ℕ → List Change → List (List ℕ)
texts_after text [] = []
texts_after text (c ∷ cs) = edits.after_change text c ∷ texts_after (edits.after_change text c) cs

-- the same of what changes change
abbrev pub edited_texts : List Change → Option Edited → List (List ℕ)
edited_texts changes None = []
edited_texts changes (Some e) = texts_after e.text changes

-- the document's text after each of its changes
abbrev pub changed_texts : State → List ℕ → List Change → List (List ℕ)
changed_texts s uri changes = edited_texts changes (edited_at s uri changes)

-- an open document is no longer open, its file counts again, and the notice that takes its notes back is due
abbrev pub closed : State → Opened → State
closed s o = with_due (with_file (record s { opened = without (λ d. d.name) o.name s.opened }) o.name) o

-- a document that is not open is ignored
abbrev pub closed_as : State → Option Opened → State
closed_as s None = s
closed_as s (Some o) = closed s o

-- a document is closed
abbrev pub after_close : State → List ℕ → State
after_close s uri = closed_as s (opened_at s uri)

-- ---- files

-- a file was deleted, or else made or changed
abbrev pub file_changed : State → Bool → List ℕ → State
file_changed s true name = with_text s name None
file_changed s false name = with_file s name

-- an open document's file does not count
abbrev pub file_counts : State → Bool → List ℕ → State
file_counts s gone name = if is_some (opened_as s name) then s else file_changed s gone name

-- the file of no member does not count
abbrev pub file_told : State → Bool → Option (List ℕ) → State
file_told s gone None = s
file_told s gone (Some name) = file_counts s gone name

-- files were made, changed or deleted, one after another
abbrev pub after_files : State → List FileEvent → State
after_files s [] = s
after_files s (e ∷ es) = after_files (file_told s e.gone (module_of s.root e.uri)) es
