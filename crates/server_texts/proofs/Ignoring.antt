-- Messages that change nothing.
use Rattle.std.proofs.Common.{◌≡◌, ℕ, cond, ltb, List, [], ◌∷◌, length, Option, Some, None, IsSome, refl, ap, ◌∙◌}
use Rattle.std.specs.Option.{option_or}
use Rattle.lsp_wire.specs.declared.types.Change.{Change}
use Rattle.lsp_answers.specs.States.{State, Root, Opened, first_too_long, judged, judged_change, unless_limit}
use Rattle.doc_edit.specs.Edits.{after_change, first_backward, first_excess, most_bytes}
use Rattle.server_documents.specs.Documents.{after_close, after_open, closed_as, edited_at, edited_if, edited_texts, opened_at, rooted, texts_after, with_changes, with_its_text, with_opened, Edited, IsRooted}
use Rattle.server_texts.specs.Server.{server_meaning}
use Rattle.server_uris.specs.Uris.{document_root, module_of}

-- where changes change nothing, the state is judged as it is
as_is : (s : State) (changes : List Change) (e : Option Edited) → e ≡ None → unless_limit (first_too_long (edited_texts changes e)) s (judged (with_changes s changes e)) ≡ judged s
as_is s changes e none = ap (λ e. unless_limit (first_too_long (edited_texts changes e)) s (judged (with_changes s changes e))) none

none_edited : (index : Option ℕ) (s : State) (o : Option Opened) → o ≡ None → edited_if index s o ≡ None
none_edited None s o e = ap (with_its_text s) e
none_edited (Some index) s o e = refl

pub change_ignored : (s : State) (uri : List ℕ) (changes : List Change) → opened_at s uri ≡ None → judged_change server_meaning s uri changes ≡ judged s
change_ignored s uri changes e = as_is s changes (edited_at s uri changes) (none_edited (first_backward changes) s (opened_at s uri) e)

pub close_ignored : (s : State) (uri : List ℕ) → opened_at s uri ≡ None → after_close s uri ≡ s
close_ignored s uri e = ap (closed_as s) e

pub backward_ignored : (s : State) (uri : List ℕ) (changes : List Change) (index : ℕ) → first_backward changes ≡ Some index → judged_change server_meaning s uri changes ≡ judged s
backward_ignored s uri changes index e = as_is s changes (edited_at s uri changes) (ap (λ f. edited_if f s (opened_at s uri)) e)

-- a root that is there stays
kept : (root other : Option Root) → IsSome root → option_or root other ≡ root
kept None other i = cc
kept (Some root) other i = refl

pub open_ignored : (s : State) (uri text : List ℕ) → IsRooted s → module_of s.root uri ≡ None → after_open s uri text ≡ s
open_ignored s uri text there none =
    let same : rooted s uri ≡ s = ap (λ r. record s { root = r }) (kept s.root (document_root uri) there) in
    ap (λ t. with_opened t uri text (module_of t.root uri)) same ∙ ap (with_opened s uri text) none
