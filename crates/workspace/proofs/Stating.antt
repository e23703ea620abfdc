-- What calls make of documents they make of them over a folder.
use Rattle.std.proofs.Common.{◌≡◌, ℕ, List, Option, Some, None, Result, Ok, Err, OnOk, refl, sym, ap, ◌∙◌, subst}
use Rattle.std.specs.Prelude.{⊤, map}
use Rattle.tool_io.specs.Folder.{Told}
use Rattle.lsp_wire.specs.declared.types.Call.{Call}
use Rattle.lsp_wire.specs.declared.types.Call.TheVariants.{Initialize, Shutdown, Definition, References, Symbols, BadParams, Unknown}
use Rattle.lsp_wire.specs.declared.types.Change.{Change}
use Rattle.lsp_wire.specs.declared.types.Note.{Note}
use Rattle.lsp_answers.specs.States.{After, Opened, after_dues, State, IsAfter, first_too_long, judged, judged_change, unless_limit}
use Rattle.lsp_answers.specs.declared.AnswerFault.{AnswerFault}
use Rattle.lsp_answers.specs.declared.AnswerFault.TheVariants.{Folder, Limit, Memory}
use Rattle.doc_edit.specs.Edits.{first_backward}
use Rattle.server_uris.specs.Uris.{module_of}
use Rattle.server_documents.specs.Documents.{Edited, after_change, after_open, changed_texts, edited_at, edited_if, edited_texts, opened_at, rooted, with_changes, with_opened}
use Rattle.server_documents.specs.Held.{IsChangeFault}
use Rattle.server_folder.specs.Folders.{with_told}
use Rattle.server_folder.proofs.RootReads.{judged-over}
use Rattle.server_documents.specs.Notices.{after_notices}
use Rattle.server_texts.specs.Notes.{notes_of}
use Rattle.server_texts.specs.Server.{reply_to, server_meaning}

-- ---- states over a folder

pub opens-over : (s : State) (told : Option Told) (uri text : List ℕ) → with_told (after_open s uri text) told ≡ after_open (with_told s told) uri text
opens-over s told uri text = by (module_of (rooted s uri).root uri)
  where
    by : (name : Option (List ℕ)) → with_told (with_opened (rooted s uri) uri text name) told ≡ with_opened (rooted (with_told s told) uri) uri text name
    by None = refl
    by (Some name) = refl

edited-over : (s : State) (told : Option Told) (uri : List ℕ) (changes : List Change) → edited_at (with_told s told) uri changes ≡ edited_at s uri changes
edited-over s told uri changes = by (first_backward changes) (opened_at s uri)
  where
    by : (backward : Option ℕ) (o : Option Opened) → edited_if backward (with_told s told) o ≡ edited_if backward s o
    by None None = refl
    by None (Some o) = refl
    by (Some index) o = refl

pub changes-over : (s : State) (told : Option Told) (uri : List ℕ) (changes : List Change) → with_told (after_change s uri changes) told ≡ after_change (with_told s told) uri changes
changes-over s told uri changes = by (edited_at s uri changes) ∙ ap (with_changes (with_told s told) changes) (sym (edited-over s told uri changes))
  where
    by : (e : Option Edited) → with_told (with_changes s changes e) told ≡ with_changes (with_told s told) changes e
    by None = refl
    by (Some e) = refl

texts-over : (s : State) (told : Option Told) (uri : List ℕ) (changes : List Change) → changed_texts (with_told s told) uri changes ≡ changed_texts s uri changes
texts-over s told uri changes = ap (edited_texts changes) (edited-over s told uri changes)

-- ---- limits

unless-none : (limit : Option ℕ) (s : State) (after : After) → limit ≡ None → unless_limit limit s after ≡ after
unless-none limit s after none = ap (λ l. unless_limit l s after) none

unless-some : (limit : Option ℕ) (s : State) (after : After) (said : ℕ) → limit ≡ Some said → (unless_limit limit s after).limit ≡ Some said
unless-some limit s after said some = ap (λ l. (unless_limit l s after).limit) some

-- a change that meets no limit within
pub change-judged : (before documents : State) (told : Option Told) (uri : List ℕ) (changes : List Change) (result : Result ⊤ AnswerFault) → documents ≡ after_change before uri changes → first_too_long (changed_texts before uri changes) ≡ None
    → IsAfter (judged documents) result documents → IsAfter (judged_change server_meaning (with_told before told) uri changes) result (with_told documents told)
change-judged before documents told uri changes result same short h =
    let now : with_told documents told ≡ after_change (with_told before told) uri changes = ap (λ (d : State). with_told d told) same ∙ changes-over before told uri changes in
    let none = unless-none (first_too_long (changed_texts (with_told before told) uri changes)) (with_told before told) (judged (after_change (with_told before told) uri changes)) (ap first_too_long (texts-over before told uri changes) ∙ short) in
    subst (λ (a : After). IsAfter a result (with_told documents told)) (sym none) (judged-over documents (after_change (with_told before told) uri changes) told result now h)

-- and one that meets one
pub change-limited : (before documents : State) (told : Option Told) (uri : List ℕ) (changes : List Change) (fault : AnswerFault) → IsChangeFault (first_too_long (changed_texts before uri changes)) fault → IsAfter (judged_change server_meaning (with_told before told) uri changes) (Err fault) (with_told documents told)
change-limited before documents told uri changes Folder h = tt
change-limited before documents told uri changes (Limit said) h =
    unless-some (first_too_long (changed_texts (with_told before told) uri changes)) (with_told before told) (judged (after_change (with_told before told) uri changes)) said (ap first_too_long (texts-over before told uri changes) ∙ h)
change-limited before documents told uri changes Memory h = tt

-- ---- notices and replies over a folder

pub sent-over : {T E : Type 0} (r : Result T E) (before after : State) (told : Option Told) (notes : List (List Note)) → notes ≡ map (λ (o : Opened). notes_of before o.name) before.opened
    → OnOk r ((notes_by : List ℕ → List Note) → notes ≡ map (λ (o : Opened). notes_by o.name) before.opened → after ≡ after_notices notes_by before) → OnOk r (with_told after told ≡ after_dues notes_of (with_told before told))
sent-over (Ok x) before after told notes are sent = ap (λ (s : State). with_told s told) (sent (notes_of before) are)
sent-over (Err e) before after told notes are sent = tt

-- a folder is not looked at
pub replied-over : (s : State) (told : Option Told) (call : Call) → reply_to s call ≡ reply_to (with_told s told) call
replied-over s told (Definition uri at) = refl
replied-over s told (References uri at declared) = refl
replied-over s told (Symbols uri) = refl
replied-over s told (Initialize root) = refl
replied-over s told Shutdown = refl
replied-over s told BadParams = refl
replied-over s told Unknown = refl
