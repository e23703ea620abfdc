-- Each step keeps texts and open documents in byte order of names.
use Rattle.std.proofs.Common.{◌≡◌, ℕ, Bool, List, [], ◌∷◌, map, Option, Some, None, refl, sym, ap, subst}
use Rattle.std.specs.Prelude.{option_and_then}
use Rattle.lsp_wire.specs.declared.types.Change.{Change}
use Rattle.lsp_wire.specs.declared.types.Note.{Note}
use Rattle.lsp_answers.specs.States.{State, Root, Opened, after_dues, judged_root}
use Rattle.doc_edit.specs.Edits.{after_changes}
use Rattle.server_documents.specs.Documents.{after_change, after_close, after_open, after_root, called, closed_as, edited_at, file_in, file_told, from_folder, listed, opened_at, rooted, with_changes, with_client_root, with_file, with_opened, with_text, without, Edited}
use Rattle.server_texts.specs.Kept.{AreInByteOrder, HasNamesInOrder, IsKept}
use Rattle.server_texts.specs.Notes.{notes_of}
use Rattle.server_texts.specs.Server.{server_meaning}
use Rattle.server_uris.specs.Uris.{client_root_of, module_of}
use Rattle.server_texts.proofs.ByteOrder.{ordered-none, put-ordered, without-ordered}
use Rattle.server_texts.proofs.Stepping.{file-keeps, kept-by, opened_name, root-keeps, text_name, told-keeps}

pub none-ordered : (s : State) → s.texts ≡ [] → s.opened ≡ [] → HasNamesInOrder s
none-ordered s texts opened =
    record {
      texts = subst (λ ts. AreInByteOrder (map text_name ts)) (sym texts) ordered-none;
      opened = subst (λ os. AreInByteOrder (map opened_name os)) (sym opened) ordered-none;
    }

-- ---- texts

text-ordered : (s : State) (name : List ℕ) (bytes : Option (List ℕ)) → HasNamesInOrder s → HasNamesInOrder (with_text s name bytes)
text-ordered s name None h = record { texts = without-ordered text_name name s.texts h.texts; opened = h.opened }
text-ordered s name (Some bytes) h =
    record { texts = put-ordered text_name (record { name = name; bytes = bytes }) s.texts h.texts; opened = h.opened }

called-ordered : (s : State) → HasNamesInOrder s → HasNamesInOrder (called s)
called-ordered s h = record { texts = h.texts; opened = h.opened }

from-ordered : (s : State) (name : List ℕ) (path : Option (List ℕ)) → HasNamesInOrder s → HasNamesInOrder (from_folder s name path)
from-ordered s name None h = text-ordered s name None h
from-ordered s name (Some path) h =
    text-ordered (called s) name (file_in (called s).folder path name) (called-ordered s h)

pub file-ordered : (s : State) (name : List ℕ) → HasNamesInOrder s → HasNamesInOrder (with_file s name)
file-ordered = file-keeps (λ s. HasNamesInOrder s) (λ s name path apart h. from-ordered s name path h)

-- ---- the root

listing-ordered : (s : State) (path : Option (List ℕ)) → HasNamesInOrder s → HasNamesInOrder (listed s path)
listing-ordered s None h = h
listing-ordered s (Some path) h = called-ordered s h

client-ordered : (s : State) (root : Option Root) → HasNamesInOrder s → HasNamesInOrder (with_client_root s root)
client-ordered s None h = h
client-ordered s (Some root) h =
    listing-ordered (record s { root = Some root }) root.path (record { texts = h.texts; opened = h.opened })

pub taken-ordered : (s : State) (uri : Option (List ℕ)) → HasNamesInOrder s → HasNamesInOrder (after_root s uri)
taken-ordered s uri h = client-ordered s (option_and_then client_root_of uri) h

pub root-ordered : (s : State) (uri : Option (List ℕ)) → HasNamesInOrder s → HasNamesInOrder (judged_root server_meaning s uri).state
root-ordered s uri h = root-keeps (λ t. HasNamesInOrder t) file-ordered s uri (taken-ordered s uri h)

-- ---- documents

opened-ordered : (s : State) (uri text : List ℕ) (name : Option (List ℕ)) → HasNamesInOrder s → HasNamesInOrder (with_opened s uri text name)
opened-ordered s uri text None h = h
opened-ordered s uri text (Some name) h =
    record {
      texts = (text-ordered s name (Some text) h).texts;
      opened = put-ordered opened_name (record { name = name; uri = uri; sent = None }) s.opened h.opened;
    }

open-ordered : (s : State) (uri text : List ℕ) → HasNamesInOrder s → HasNamesInOrder (after_open s uri text)
open-ordered s uri text h =
    opened-ordered (rooted s uri) uri text (module_of (rooted s uri).root uri) (record { texts = h.texts; opened = h.opened })

changes-ordered : (s : State) (changes : List Change) (e : Option Edited) → HasNamesInOrder s → HasNamesInOrder (with_changes s changes e)
changes-ordered s changes None h = h
changes-ordered s changes (Some e) h =
    let put : HasNamesInOrder (with_text s e.opened.name (Some (after_changes e.text changes))) = text-ordered s e.opened.name (Some (after_changes e.text changes)) h in
    record { texts = put.texts; opened = put.opened }

change-ordered : (s : State) (uri : List ℕ) (changes : List Change) → HasNamesInOrder s → HasNamesInOrder (after_change s uri changes)
change-ordered s uri changes h = changes-ordered s changes (edited_at s uri changes) h

closed-ordered : (s : State) (o : Option Opened) → HasNamesInOrder s → HasNamesInOrder (closed_as s o)
closed-ordered s None h = h
closed-ordered s (Some o) h =
    let left : State = record s { opened = without (λ d. d.name) o.name s.opened } in
    let read : HasNamesInOrder (with_file left o.name) = file-ordered left o.name (record { texts = h.texts; opened = without-ordered opened_name o.name s.opened h.opened }) in
    record { texts = read.texts; opened = read.opened }

close-ordered : (s : State) (uri : List ℕ) → HasNamesInOrder s → HasNamesInOrder (after_close s uri)
close-ordered s uri h = closed-ordered s (opened_at s uri) h

-- ---- files

told-ordered : (s : State) (gone : Bool) (name : Option (List ℕ)) → HasNamesInOrder s → HasNamesInOrder (file_told s gone name)
told-ordered = told-keeps (λ s. HasNamesInOrder s) (λ s name apart h. text-ordered s name None h) file-ordered

-- ---- notices

names-stay : (notes : List ℕ → List Note) (os : List Opened) → map opened_name (map (λ (o : Opened). record { name = o.name; uri = o.uri; sent = Some (notes o.name) }) os) ≡ map opened_name os
names-stay notes [] = refl
names-stay notes (o ∷ os) = ap (λ names. o.name ∷ names) (names-stay notes os)

sent-ordered : (s : State) → HasNamesInOrder s → HasNamesInOrder (after_dues notes_of s)
sent-ordered s h =
    record {
      texts = h.texts;
      opened = subst (λ names. AreInByteOrder names) (sym (names-stay (notes_of s) s.opened)) h.opened;
    }

pub order-kept : IsKept server_meaning (λ s. HasNamesInOrder s)
order-kept = kept-by (λ s. HasNamesInOrder s) open-ordered change-ordered close-ordered told-ordered sent-ordered
