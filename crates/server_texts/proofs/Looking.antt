-- What the calls look at, and what a root leaves.
use Rattle.std.proofs.Common.{◌≡◌, ℕ, Bool, true, false, cond, List, Option, Some, None, refl, ap}
use Rattle.std.specs.Prelude.{is_some, option_map, option_and_then}
use Rattle.lsp_answers.specs.States.{State, Root, LooksAtTexts}
use Rattle.server_documents.specs.Documents.{after_root, called, file_in, from_folder, listed, named, opened_as, path_of, with_client_root, with_file, with_text}
use Rattle.server_texts.specs.Notes.{notes_in}
use Rattle.server_texts.specs.Server.{server_meaning}
use Rattle.server_uris.specs.Uris.{client_root_of}

-- two states have the same documents
abbrev Keeps : State → State → Type 0
Keeps s t = (t.opened ≡ s.opened) × (t.due ≡ s.due)

text_keeps : (s : State) (name : List ℕ) (bytes : Option (List ℕ)) → Keeps s (with_text s name bytes)
text_keeps s name None = (refl, refl)
text_keeps s name (Some bytes) = (refl, refl)

-- a file that is read
read_keeps : (s : State) (name : List ℕ) (path : Option (List ℕ)) → Keeps s (from_folder s name path)
read_keeps s name None = text_keeps s name None
read_keeps s name (Some path) = text_keeps (called s) name (file_in (called s).folder path name)

file_keeps : (s : State) (name : List ℕ) → Keeps s (with_file s name)
file_keeps s name = by (is_some (opened_as s name))
  where
    by : (there : Bool) → Keeps s (cond there s (from_folder s name (path_of s)))
    by true = (refl, refl)
    by false = read_keeps s name (path_of s)

listing_keeps : (s : State) (path : Option (List ℕ)) → Keeps s (listed s path)
listing_keeps s None = (refl, refl)
listing_keeps s (Some path) = (refl, refl)

-- a root that is taken
root_keeps : (s : State) (root : Option Root) → Keeps s (with_client_root s root)
root_keeps s None = (refl, refl)
root_keeps s (Some root) = listing_keeps (record s { root = Some root }) root.path

taken_keeps : (s : State) (uri : Option (List ℕ)) → Keeps s (after_root s uri)
taken_keeps s uri = root_keeps s (option_and_then client_root_of uri)

pub looks : LooksAtTexts server_meaning
looks =
    record {
      notes = λ s t name e. ap (λ texts. notes_in texts name (option_map (λ m. m.bytes) (named (λ m. m.name) name texts))) e;
      root_opened = λ s uri. (taken_keeps s uri).0;
      root_due = λ s uri. (taken_keeps s uri).1;
      read_opened = λ s name. (file_keeps s name).0;
      read_due = λ s name. (file_keeps s name).1;
    }
