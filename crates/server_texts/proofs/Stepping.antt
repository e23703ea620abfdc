-- What is true after each step is true after each call.
use Rattle.std.proofs.Common.{◌≡◌, ℕ, Bool, true, false, cond, List, [], ◌∷◌, Option, Some, None, refl, ◌∙◌}
use Rattle.std.specs.Prelude.{is_some}
use Rattle.lsp_wire.specs.declared.types.Change.{Change}
use Rattle.lsp_wire.specs.declared.types.FileEvent.{FileEvent}
use Rattle.lsp_answers.specs.States.{State, After, ModuleText, Opened, after_dues, first_too_long, judged, judged_reads, judged_root, limit_of, unless_limit}
use Rattle.server_documents.specs.Documents.{after_change, after_close, after_files, after_open, after_root, changed_texts, file_changed, file_told, from_folder, opened_as, path_of, root_modules, with_file, with_text}
use Rattle.server_texts.specs.Kept.{IsKept}
use Rattle.server_texts.specs.Notes.{notes_of}
use Rattle.server_texts.specs.Server.{server_meaning}
use Rattle.server_uris.specs.Uris.{module_of}
use Rattle.server_texts.proofs.Looking.{looks}

abbrev pub text_name : ModuleText → List ℕ
text_name t = t.name

abbrev pub opened_name : Opened → List ℕ
opened_name o = o.name

unless-keeps : (P : State → Type 0) (limit : Option ℕ) (s : State) (after : After) → P s → P after.state → P (unless_limit limit s after).state
unless-keeps P None s after now later = later
unless-keeps P (Some said) s after now later = now

reads-keep : (P : State → Type 0) → ((s : State) (name : List ℕ) → P s → P (with_file s name)) → (s : State) (names : List (List ℕ)) → P s → P (judged_reads with_file s names).state
reads-keep P read s [] h = h
reads-keep P read s (name ∷ names) h =
    unless-keeps P (limit_of s) s (judged_reads with_file (with_file s name) names) h (reads-keep P read (with_file s name) names (read s name h))

pub root-keeps : (P : State → Type 0) → ((s : State) (name : List ℕ) → P s → P (with_file s name)) → (s : State) (root : Option (List ℕ)) → P (after_root s root) → P (judged_root server_meaning s root).state
root-keeps P read s root h = reads-keep P read (after_root s root) (root_modules s root) h

-- a root that is taken, and files that are read, open and close no document
pub root-opened : (s : State) (root : Option (List ℕ)) → (judged_root server_meaning s root).state.opened ≡ s.opened
root-opened s root =
    root-keeps (λ t. t.opened ≡ s.opened) (λ t name e. looks.read_opened t name ∙ e) s root (looks.root_opened s root)

pub root-due : (s : State) (root : Option (List ℕ)) → (judged_root server_meaning s root).state.due ≡ s.due
root-due s root = root-keeps (λ t. t.due ≡ s.due) (λ t name e. looks.read_due t name ∙ e) s root (looks.root_due s root)

-- an open document's file does not count
stays-or : (P : State → Type 0) (there : Bool) (s t : State) → P s → (there ≡ false → P t) → P (cond there s t)
stays-or P true s t now later = now
stays-or P false s t now later = later refl

-- what a read of the folder keeps
pub file-keeps : (P : State → Type 0) → ((s : State) (name : List ℕ) (path : Option (List ℕ)) → is_some (opened_as s name) ≡ false → P s → P (from_folder s name path)) → (s : State) (name : List ℕ) → P s → P (with_file s name)
file-keeps P read s name h = stays-or P (is_some (opened_as s name)) s (from_folder s name (path_of s)) h (λ apart. read s name (path_of s) apart h)

-- what a text that is taken away and a read of the folder keep
pub told-keeps : (P : State → Type 0) → ((s : State) (name : List ℕ) → is_some (opened_as s name) ≡ false → P s → P (with_text s name None)) → ((s : State) (name : List ℕ) → P s → P (with_file s name)) → (s : State) (gone : Bool) (name : Option (List ℕ)) → P s → P (file_told s gone name)
told-keeps P take read s gone None h = h
told-keeps P take read s gone (Some name) h = stays-or P (is_some (opened_as s name)) s (file_changed s gone name) h (by gone)
  where
    by : (b : Bool) → is_some (opened_as s name) ≡ false → P (file_changed s b name)
    by true apart = take s name apart h
    by false apart = read s name h

files-keep : (P : State → Type 0) → ((s : State) (gone : Bool) (name : Option (List ℕ)) → P s → P (file_told s gone name)) → (s : State) (events : List FileEvent) → P s → P (after_files s events)
files-keep P file s [] h = h
files-keep P file s (e ∷ events) h =
    files-keep P file (file_told s e.gone (module_of s.root e.uri)) events (file s e.gone (module_of s.root e.uri) h)

-- what each step of a notification keeps
pub kept-by : (P : State → Type 0) → ((s : State) (uri text : List ℕ) → P s → P (after_open s uri text)) → ((s : State) (uri : List ℕ) (changes : List Change) → P s → P (after_change s uri changes)) → ((s : State) (uri : List ℕ) → P s → P (after_close s uri)) → ((s : State) (gone : Bool) (name : Option (List ℕ)) → P s → P (file_told s gone name)) → ((s : State) → P s → P (after_dues notes_of s)) → IsKept server_meaning P
kept-by P opens changes closes file sends =
    record {
      opened = opens;
      changed = changes;
      limited = λ s uri cs h. unless-keeps P (first_too_long (changed_texts s uri cs)) s (judged (after_change s uri cs)) h (changes s uri cs h);
      closed = closes;
      files = files-keep P file;
      sent = sends;
    }
