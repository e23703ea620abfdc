-- Open documents stay the modules that their URIs are.
use Rattle.std.proofs.Common.{◌≡◌, ℕ, Bool, List, [], ◌∷◌, map, Option, Some, None, refl, sym, ap, ◌∙◌, subst}
use Rattle.std.specs.Prelude.{option_and_then, option_map}
use Rattle.std.specs.List.{AllByRecursion}
use Rattle.std.specs.Option.{IfSome, option_or}
use Rattle.lsp_wire.specs.declared.types.Change.{Change}
use Rattle.lsp_wire.specs.declared.types.Note.{Note}
use Rattle.lsp_answers.specs.States.{State, Root, Opened, Named, after_dues, judged_root}
use Rattle.doc_edit.specs.Edits.{first_backward}
use Rattle.server_documents.specs.Documents.{after_change, after_close, after_open, called, closed_as, edited_at, edited_if, file_in, file_told, from_folder, opened_as, opened_at, rooted, text_of, with_changes, with_file, with_its_text, with_opened, with_text, without, Edited}
use Rattle.server_texts.specs.Kept.{HasMembers, IsKept}
use Rattle.server_texts.specs.Notes.{notes_of}
use Rattle.server_texts.specs.Server.{server_meaning}
use Rattle.server_uris.specs.Uris.{document_root, module_of}
use Rattle.server_texts.proofs.ByName.{all-put, all-without, found-holds}
use Rattle.server_texts.proofs.Stepping.{file-keeps, kept-by, opened_name, root-due, root-opened, told-keeps}

-- a document is the module that its URI is
abbrev IsMember : Option Root → Opened → Type 0
IsMember root o = module_of root o.uri ≡ Some o.name

pub none-members : (s : State) → s.opened ≡ [] → s.due ≡ None → HasMembers s
none-members s opened due =
    record {
      opened = subst (λ os. AllByRecursion (IsMember s.root) os) (sym opened) tt;
      due = subst (λ (d : Option Named). IfSome d (λ d. module_of s.root d.uri ≡ Some d.name)) (sym due) tt;
    }

pub root-members : (s : State) (uri : Option (List ℕ)) → s.opened ≡ [] → s.due ≡ None → HasMembers (judged_root server_meaning s uri).state
root-members s uri opened due =
    none-members (judged_root server_meaning s uri).state (root-opened s uri ∙ opened) (root-due s uri ∙ due)

-- ---- texts

text-members : (s : State) (name : List ℕ) (bytes : Option (List ℕ)) → HasMembers s → HasMembers (with_text s name bytes)
text-members s name None h = record { opened = h.opened; due = h.due }
text-members s name (Some bytes) h = record { opened = h.opened; due = h.due }

from-members : (s : State) (name : List ℕ) (path : Option (List ℕ)) → HasMembers s → HasMembers (from_folder s name path)
from-members s name None h = text-members s name None h
from-members s name (Some path) h =
    text-members (called s) name (file_in (called s).folder path name) (record { opened = h.opened; due = h.due })

file-members : (s : State) (name : List ℕ) → HasMembers s → HasMembers (with_file s name)
file-members = file-keeps (λ s. HasMembers s) (λ s name path apart h. from-members s name path h)

-- the root stays
text-root : (s : State) (name : List ℕ) (bytes : Option (List ℕ)) → (with_text s name bytes).root ≡ s.root
text-root s name None = refl
text-root s name (Some bytes) = refl

from-root : (s : State) (name : List ℕ) (path : Option (List ℕ)) → (from_folder s name path).root ≡ s.root
from-root s name None = text-root s name None
from-root s name (Some path) = text-root (called s) name (file_in (called s).folder path name)

file-root : (s : State) (name : List ℕ) → (with_file s name).root ≡ s.root
file-root s name = file-keeps (λ t. t.root ≡ s.root) (λ t name path apart e. from-root t name path ∙ e) s name refl

-- ---- documents

-- where there is no root, no document is open
grown : (root other : Option Root) (os : List Opened) → AllByRecursion (IsMember root) os → AllByRecursion (IsMember (option_or root other)) os
grown None other [] h = tt
grown None other (o ∷ os) h = let no : None ≡ Some o.name = h.0 in cc
grown (Some root) other os h = h

grown-due : (root other : Option Root) (due : Option Named) → IfSome due (λ d. module_of root d.uri ≡ Some d.name) → IfSome due (λ d. module_of (option_or root other) d.uri ≡ Some d.name)
grown-due root other None h = tt
grown-due None other (Some d) h = cc
grown-due (Some root) other (Some d) h = h

opened-members : (s : State) (uri text : List ℕ) (name : Option (List ℕ)) → module_of s.root uri ≡ name → HasMembers s → HasMembers (with_opened s uri text name)
opened-members s uri text None is h = h
opened-members s uri text (Some name) is h =
    record {
      opened = all-put opened_name (IsMember s.root) (record { name = name; uri = uri; sent = None }) s.opened is h.opened;
      due = is;
    }

open-members : (s : State) (uri text : List ℕ) → HasMembers s → HasMembers (after_open s uri text)
open-members s uri text h =
    opened-members (rooted s uri) uri text (module_of (rooted s uri).root uri) refl
    (record {
      opened = grown s.root (document_root uri) s.opened h.opened;
      due = grown-due s.root (document_root uri) s.due h.due;
    })

-- what is found of the open documents is one of them
pub found-opened : (P : Opened → Type 0) (s : State) (name : Option (List ℕ)) → AllByRecursion P s.opened → IfSome (option_and_then (opened_as s) name) P
found-opened P s None h = tt
found-opened P s (Some name) h = found-holds opened_name P name s.opened h

with-text-found : (P : Opened → Type 0) (o : Opened) (text : Option (List ℕ)) → P o → IfSome (option_map (λ t. record { opened = o; text = t }) text) (λ (e : Edited). P e.opened)
with-text-found P o None h = tt
with-text-found P o (Some text) h = h

its-text-found : (P : Opened → Type 0) (s : State) (o : Option Opened) → IfSome o P → IfSome (with_its_text s o) (λ e. P e.opened)
its-text-found P s None h = tt
its-text-found P s (Some o) h = with-text-found P o (text_of s o.name) h

edited-found : (P : Opened → Type 0) (backward : Option ℕ) (s : State) (o : Option Opened) → IfSome o P → IfSome (edited_if backward s o) (λ e. P e.opened)
edited-found P None s o h = its-text-found P s o h
edited-found P (Some index) s o h = tt

changes-members : (s : State) (changes : List Change) (e : Option Edited) → IfSome e (λ e. IsMember s.root e.opened) → HasMembers s → HasMembers (with_changes s changes e)
changes-members s changes None is h = h
changes-members s changes (Some e) is h = record { opened = h.opened; due = is }

change-members : (s : State) (uri : List ℕ) (changes : List Change) → HasMembers s → HasMembers (after_change s uri changes)
change-members s uri changes h =
    changes-members s changes (edited_at s uri changes) (edited-found (IsMember s.root) (first_backward changes) s (opened_at s uri) (found-opened (IsMember s.root) s (module_of s.root uri) h.opened)) h

closed-members : (s : State) (o : Option Opened) → IfSome o (IsMember s.root) → HasMembers s → HasMembers (closed_as s o)
closed-members s None is h = h
closed-members s (Some o) is h =
    let left : State = record s { opened = without (λ d. d.name) o.name s.opened } in
    let read : HasMembers (with_file left o.name) = file-members left o.name (record { opened = all-without opened_name (IsMember s.root) o.name s.opened h.opened; due = h.due }) in
    record {
      opened = read.opened;
      due = ap (λ r. module_of r o.uri) (file-root left o.name) ∙ is;
    }

close-members : (s : State) (uri : List ℕ) → HasMembers s → HasMembers (after_close s uri)
close-members s uri h =
    closed-members s (opened_at s uri) (found-opened (IsMember s.root) s (module_of s.root uri) h.opened) h

-- ---- files

told-members : (s : State) (gone : Bool) (name : Option (List ℕ)) → HasMembers s → HasMembers (file_told s gone name)
told-members = told-keeps (λ s. HasMembers s) (λ s name apart h. text-members s name None h) file-members

-- ---- notices

members-stay : (root : Option Root) (notes : List ℕ → List Note) (os : List Opened) → AllByRecursion (IsMember root) os → AllByRecursion (IsMember root) (map (λ (o : Opened). record { name = o.name; uri = o.uri; sent = Some (notes o.name) }) os)
members-stay root notes [] h = tt
members-stay root notes (o ∷ os) h = (h.0, members-stay root notes os h.1)

sent-members : (s : State) → HasMembers s → HasMembers (after_dues notes_of s)
sent-members s h = record { opened = members-stay s.root (notes_of s) s.opened h.opened; due = tt }

pub members-kept : IsKept server_meaning (λ s. HasMembers s)
members-kept = kept-by (λ s. HasMembers s) open-members change-members close-members told-members sent-members
