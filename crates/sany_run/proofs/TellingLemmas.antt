-- A folder that tells goes on telling, whatever a client asks of the server.
use Rattle.std.proofs.Common.{ℕ, List, [], ◌∷◌, Option, Some, None, Bool, true, false, IsSome, is_some, refl, if◌then◌else◌}
use Rattle.tool_io.specs.Folder.{Told, after_call}
use Rattle.lsp_wire.specs.declared.types.Change.{Change}
use Rattle.lsp_wire.specs.declared.types.FileEvent.{FileEvent}
use Rattle.lsp_answers.specs.States.{State, Root, Opened}
use Rattle.lsp_serve.specs.Serving.{KeepsTelling}
use Rattle.server_documents.specs.Documents.{Edited, after_files, called, closed_as, edited_at, file_changed, file_told, from_folder, listed, opened_as, opened_at, path_of, rooted, with_changes, with_client_root, with_file, with_opened, with_text, without}
use Rattle.server_texts.specs.Server.{server_meaning}
use Rattle.server_uris.specs.Uris.{client_root_of, module_of}
use Rattle.std.specs.Prelude.{option_and_then, option_map}

abbrev Tells : State → Type 0
Tells s = IsSome s.folder

called-tells : (told : Option Told) → IsSome told → IsSome (option_map after_call told)
called-tells (Some told) t = refl
called-tells None t = t

text-tells : (s : State) (name : List ℕ) (text : Option (List ℕ)) → Tells s → Tells (with_text s name text)
text-tells s name None t = t
text-tells s name (Some bytes) t = t

folder-tells : (s : State) (name : List ℕ) (path : Option (List ℕ)) → Tells s → Tells (from_folder s name path)
folder-tells s name None t = t
folder-tells s name (Some path) t = text-tells (called s) name _ (called-tells s.folder t)

unopened-tells : (b : Bool) (s read : State) → Tells s → Tells read → Tells (if b then s else read)
unopened-tells true s read t u = t
unopened-tells false s read t u = u

file-tells : (s : State) (name : List ℕ) → Tells s → Tells (with_file s name)
file-tells s name t = unopened-tells (is_some (opened_as s name)) s (from_folder s name (path_of s)) t (folder-tells s name (path_of s) t)

listed-tells : (s : State) (path : Option (List ℕ)) → Tells s → Tells (listed s path)
listed-tells s None t = t
listed-tells s (Some path) t = called-tells s.folder t

root-tells : (s : State) (root : Option Root) → Tells s → Tells (with_client_root s root)
root-tells s None t = t
root-tells s (Some root) t = listed-tells (record s { root = Some root }) root.path t

opened-tells : (s : State) (uri text : List ℕ) (name : Option (List ℕ)) → Tells s → Tells (with_opened s uri text name)
opened-tells s uri text None t = t
opened-tells s uri text (Some name) t = t

changed-tells : (s : State) (changes : List Change) (edited : Option Edited) → Tells s → Tells (with_changes s changes edited)
changed-tells s changes None t = t
changed-tells s changes (Some edited) t = t

closed-tells : (s : State) (opened : Option Opened) → Tells s → Tells (closed_as s opened)
closed-tells s None t = t
closed-tells s (Some o) t = file-tells (record s { opened = without (λ (d : Opened). d.name) o.name s.opened }) o.name t

changed-file-tells : (s : State) (gone : Bool) (name : List ℕ) → Tells s → Tells (file_changed s gone name)
changed-file-tells s true name t = t
changed-file-tells s false name t = file-tells s name t

told-tells : (s : State) (gone : Bool) (name : Option (List ℕ)) → Tells s → Tells (file_told s gone name)
told-tells s gone None t = t
told-tells s gone (Some name) t = unopened-tells (is_some (opened_as s name)) s (file_changed s gone name) t (changed-file-tells s gone name t)

files-tell : (s : State) (events : List FileEvent) → Tells s → Tells (after_files s events)
files-tell s [] t = t
files-tell s (e ∷ events) t = files-tell (file_told s e.gone (module_of s.root e.uri)) events (told-tells s e.gone (module_of s.root e.uri) t)

pub server-keeps-telling : KeepsTelling server_meaning
server-keeps-telling =
    record {
      root = λ s root t. root-tells s (option_and_then client_root_of root) t;
      read = λ s name t. file-tells s name t;
      opens = λ s uri text t. opened-tells (rooted s uri) uri text (module_of (rooted s uri).root uri) t;
      changes = λ s uri changes t. changed-tells s changes (edited_at s uri changes) t;
      closes = λ s uri t. closed-tells s (opened_at s uri) t;
      files = λ s events t. files-tell s events t;
    }
