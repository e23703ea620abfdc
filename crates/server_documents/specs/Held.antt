-- What is held of modules and documents, as a state. No folder is held.
use Rattle.std.specs.Prelude.{ℕ, ◌≡◌, ◌<◌, ◌^◌, List, [], length, Option, Some, None}
use Rattle.std.specs.List.{AllByRecursion}
use Rattle.std.specs.Str.{bytes_eq}
use Rattle.std.specs.Map.{lookup}
use Rattle.lsp_answers.specs.States.{Root, State, ModuleText, Opened}
use Rattle.lsp_wire.specs.declared.types.Change.{Change}
use Rattle.doc_edit.specs.Edits.{after_changes}
use Rattle.server_documents.specs.Documents.{with_due, without}
use Rattle.server_documents.specs.declared.held.Held.{Held}
use Rattle.server_documents.specs.declared.held.Held.TheVariants.{File, Document}
use Rattle.server_documents.specs.declared.opened.Open.{Open}
use Rattle.lsp_answers.specs.declared.AnswerFault.{AnswerFault}
use Rattle.lsp_answers.specs.declared.AnswerFault.TheVariants.{Folder, Limit, Memory}

-- the bytes of a module's text
abbrev pub bytes_of : Held → List ℕ
bytes_of (File bytes) = bytes
bytes_of (Document text) = text

-- how many they are
abbrev pub held_len : Held → ℕ
held_len held = length (bytes_of held)

-- a module's text under its name
abbrev pub text_as : List ℕ × Held → ModuleText
text_as entry = record { name = entry.0; bytes = bytes_of entry.1 }

-- an open document under its module's name
abbrev pub opened_entry : List ℕ × Open → Opened
opened_entry entry = record { name = entry.0; uri = entry.1.uri; sent = entry.1.sent }

-- nothing is held
abbrev pub nothing : State
nothing = record { root = None; texts = []; opened = []; due = None; folder = None }

-- the client's root is taken
abbrev pub with_root : State → Root → State
with_root s root = record s { root = Some root }

-- what is held under a name
abbrev pub held_as : List (List ℕ × Held) → List ℕ → Option Held
held_as entries name = lookup (λ key. bytes_eq name key) entries

-- the text of an open document, if that is held
abbrev pub document_in : Option Held → Option (List ℕ)
document_in (Some (Document text)) = Some text
document_in (Some (File bytes)) = None
document_in None = None

-- a module has the text of its open document, which is no longer than a text can be
abbrev pub HasDocument : List (List ℕ × Held) → List ℕ → Type 0
HasDocument entries name = (text : List ℕ) × (held_as entries name ≡ Some (Document text)) × (length text < 2 ^ 31)

-- no text is longer than a text can be
abbrev pub AreShort : List (List ℕ × Held) → Type 0
AreShort entries = AllByRecursion (λ (entry : List ℕ × Held). length (bytes_of entry.1) < 2 ^ 31) entries

-- so has the module of each open document
abbrev pub HaveDocuments : List (List ℕ × Held) → List (List ℕ × Open) → Type 0
HaveDocuments entries opened = AllByRecursion (λ (entry : List ℕ × Open). HasDocument entries entry.0) opened

-- what is true of all that is held
pub record AreHeld (entries : List (List ℕ × Held)) (opened : List (List ℕ × Open)) : Type 0 where
  pub short : AreShort entries
  pub documents : HaveDocuments entries opened

-- an open document is no longer open, and the notice that takes its notes back is due; its text stays
abbrev pub unopened : State → Opened → State
unopened s o = with_due (record s { opened = without (λ d. d.name) o.name s.opened }) o

-- a document that is not open is ignored
abbrev pub unopened_as : State → Option Opened → State
unopened_as s None = s
unopened_as s (Some o) = unopened s o

-- a text after changes, unless one of these is backward
abbrev pub text_after : Option ℕ → List ℕ → List Change → Option (List ℕ)
text_after None text changes = Some (after_changes text changes)
text_after (Some index) text changes = None

-- what a fault of a change says of the first text that is too long; no folder is called
abbrev pub IsChangeFault : Option ℕ → AnswerFault → Type 0
IsChangeFault excess (Limit said) = excess ≡ Some said
IsChangeFault excess Folder = ⊥
IsChangeFault excess Memory = Unit {0}

-- the same, where no change is backward
abbrev pub IsEditFault : Option ℕ → Option ℕ → AnswerFault → Type 0
IsEditFault backward excess (Limit said) = (backward ≡ None) × (excess ≡ Some said)
IsEditFault backward excess Folder = ⊥
IsEditFault backward excess Memory = Unit {0}
