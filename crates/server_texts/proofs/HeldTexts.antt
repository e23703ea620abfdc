-- The texts of names, and that open documents have theirs.
use Rattle.std.proofs.Common.{◌≡◌, ◌≢◌, ℕ, Bool, true, false, cond, List, [], ◌∷◌, map, Option, Some, None, refl, sym, ap, ◌∙◌, subst}
use Rattle.std.specs.Prelude.{IsSome, is_some, option_map, slice_get}
use Rattle.std.specs.List.{AllByRecursion}
use Rattle.std.specs.Str.{bytes_eq}
use Rattle.std.proofs.lemmas.Bool.{false_from_ne_true}
use Rattle.std.proofs.lemmas.Slice.Eq.{bytes_eq-Decides}
use Rattle.lsp_wire.specs.declared.types.Change.{Change}
use Rattle.lsp_wire.specs.declared.types.Note.{Note}
use Rattle.lsp_answers.specs.States.{State, ModuleText, Opened, after_dues, judged_root}
use Rattle.doc_edit.specs.Edits.{after_changes}
use Rattle.list_laws.proofs.Lists.{all-weaker}
use Rattle.server_documents.specs.Documents.{after_change, after_close, after_open, called, closed_as, edited_at, file_changed, file_in, file_told, from_folder, opened_as, opened_at, path_of, rooted, text_of, with_changes, with_file, with_opened, with_text, without, Edited}
use Rattle.server_texts.specs.Kept.{HasNamesInOrder, HasTexts, IsKept}
use Rattle.server_texts.specs.Notes.{notes_of}
use Rattle.server_texts.specs.Server.{server_meaning}
use Rattle.server_uris.specs.Uris.{module_of}
use Rattle.server_texts.proofs.ByName.{absent, all-put, all-without, found-only, put-found, put-others, without-apart, without-none, without-others}
use Rattle.server_texts.proofs.Stepping.{file-keeps, kept-by, opened_name, root-opened, text_name, told-keeps}

-- ---- the text of a name

abbrev bytes_in : Option ModuleText → Option (List ℕ)
bytes_in t = option_map (λ m. m.bytes) t

pub text-only : (s : State) (i : ℕ) (t : ModuleText) → HasNamesInOrder s → slice_get s.texts i ≡ Some t → text_of s t.name ≡ Some t.bytes
text-only s i t h e = ap bytes_in (found-only text_name s.texts i t h.texts e)

pub text-given : (s : State) (name : List ℕ) (bytes : Option (List ℕ)) → text_of (with_text s name bytes) name ≡ bytes
text-given s name None = ap bytes_in (without-none text_name name s.texts)
text-given s name (Some bytes) = ap bytes_in (put-found text_name (record { name = name; bytes = bytes }) s.texts)

apart-kept : (s : State) (name other : List ℕ) (bytes : Option (List ℕ)) → bytes_eq other name ≡ false → text_of (with_text s name bytes) other ≡ text_of s other
apart-kept s name other None apart = ap bytes_in (without-others text_name name other s.texts apart)
apart-kept s name other (Some bytes) apart =
    ap bytes_in (put-others text_name other (record { name = name; bytes = bytes }) s.texts apart)

pub text-others : (s : State) (name other : List ℕ) (bytes : Option (List ℕ)) → other ≢ name → text_of (with_text s name bytes) other ≡ text_of s other
text-others s name other bytes apart =
    apart-kept s name other bytes (false_from_ne_true (bytes_eq other name) (λ e. apart ((bytes_eq-Decides other name).0 e)))

-- ---- open documents

-- these documents have texts
abbrev Have : State → List Opened → Type 0
Have s os = AllByRecursion (λ o. IsSome (text_of s o.name)) os

-- these documents are other modules
abbrev AreOthers : List ℕ → List Opened → Type 0
AreOthers name os = AllByRecursion (λ o. bytes_eq o.name name ≡ false) os

pub none-texts : (s : State) → s.opened ≡ [] → HasTexts s
none-texts s opened = subst (λ os. Have s os) (sym opened) tt

pub root-texts : (s : State) (uri : Option (List ℕ)) → s.opened ≡ [] → HasTexts (judged_root server_meaning s uri).state
root-texts s uri opened = none-texts (judged_root server_meaning s uri).state (root-opened s uri ∙ opened)

-- a text that is given takes none away
given-at : (s : State) (name bytes n : List ℕ) (b : Bool) → bytes_eq n name ≡ b → IsSome (text_of s n) → IsSome (text_of (with_text s name (Some bytes)) n)
given-at s name bytes n true e h =
    let same : n ≡ name = (bytes_eq-Decides n name).0 e in
    ap (λ m. is_some (text_of (with_text s name (Some bytes)) m)) same ∙ ap is_some (text-given s name (Some bytes))
given-at s name bytes n false e h = ap is_some (apart-kept s name n (Some bytes) e) ∙ h

given-texts : (s : State) (name bytes : List ℕ) (os : List Opened) → Have s os → Have (with_text s name (Some bytes)) os
given-texts s name bytes os h =
    all-weaker (λ o. IsSome (text_of s o.name)) (λ o. IsSome (text_of (with_text s name (Some bytes)) o.name)) (λ o has. given-at s name bytes o.name (bytes_eq o.name name) refl has) os h

-- other modules keep theirs
others-texts : (s : State) (name : List ℕ) (bytes : Option (List ℕ)) (os : List Opened) → AreOthers name os → Have s os → Have (with_text s name bytes) os
others-texts s name bytes [] others h = tt
others-texts s name bytes (o ∷ os) others h =
    (ap is_some (apart-kept s name o.name bytes others.0) ∙ h.0, others-texts s name bytes os others.1 h.1)

text-texts : (s : State) (name : List ℕ) (bytes : Option (List ℕ)) → AreOthers name s.opened → HasTexts s → HasTexts (with_text s name bytes)
text-texts s name None others h = others-texts s name None s.opened others h
text-texts s name (Some bytes) others h = others-texts s name (Some bytes) s.opened others h

from-texts : (s : State) (name : List ℕ) (path : Option (List ℕ)) → AreOthers name s.opened → HasTexts s → HasTexts (from_folder s name path)
from-texts s name None others h = text-texts s name None others h
from-texts s name (Some path) others h = text-texts (called s) name (file_in (called s).folder path name) others h

file-texts : (s : State) (name : List ℕ) → HasTexts s → HasTexts (with_file s name)
file-texts = file-keeps HasTexts (λ s name path apart h. from-texts s name path (absent opened_name name s.opened apart) h)

opened-texts : (s : State) (uri text : List ℕ) (name : Option (List ℕ)) → HasTexts s → HasTexts (with_opened s uri text name)
opened-texts s uri text None h = h
opened-texts s uri text (Some name) h =
    all-put opened_name (λ o. IsSome (text_of (with_text s name (Some text)) o.name)) (record { name = name; uri = uri; sent = None }) s.opened (ap is_some (text-given s name (Some text))) (given-texts s name text s.opened h)

open-texts : (s : State) (uri text : List ℕ) → HasTexts s → HasTexts (after_open s uri text)
open-texts s uri text h = opened-texts (rooted s uri) uri text (module_of (rooted s uri).root uri) h

changes-texts : (s : State) (changes : List Change) (e : Option Edited) → HasTexts s → HasTexts (with_changes s changes e)
changes-texts s changes None h = h
changes-texts s changes (Some e) h = given-texts s e.opened.name (after_changes e.text changes) s.opened h

change-texts : (s : State) (uri : List ℕ) (changes : List Change) → HasTexts s → HasTexts (after_change s uri changes)
change-texts s uri changes h = changes-texts s changes (edited_at s uri changes) h

closed-texts : (s : State) (o : Option Opened) → HasTexts s → HasTexts (closed_as s o)
closed-texts s None h = h
closed-texts s (Some o) h =
    let left : State = record s { opened = without (λ d. d.name) o.name s.opened } in
    file-texts left o.name (all-without opened_name (λ d. IsSome (text_of s d.name)) o.name s.opened h)

close-texts : (s : State) (uri : List ℕ) → HasTexts s → HasTexts (after_close s uri)
close-texts s uri h = closed-texts s (opened_at s uri) h

told-texts : (s : State) (gone : Bool) (name : Option (List ℕ)) → HasTexts s → HasTexts (file_told s gone name)
told-texts = told-keeps HasTexts (λ s name apart h. text-texts s name None (absent opened_name name s.opened apart) h) file-texts

texts-stay : (s : State) (notes : List ℕ → List Note) (os : List Opened) → Have s os → Have s (map (λ (o : Opened). record { name = o.name; uri = o.uri; sent = Some (notes o.name) }) os)
texts-stay s notes [] h = tt
texts-stay s notes (o ∷ os) h = (h.0, texts-stay s notes os h.1)

sent-texts : (s : State) → HasTexts s → HasTexts (after_dues notes_of s)
sent-texts s h = texts-stay s (notes_of s) s.opened h

pub texts-kept : IsKept server_meaning HasTexts
texts-kept = kept-by HasTexts open-texts change-texts close-texts told-texts sent-texts
