-- Between two messages the notes last sent are those of the texts.
use Rattle.std.proofs.Common.{◌≡◌, ℕ, true, cond, List, [], ◌∷◌, ◌++◌, map, Option, Some, None, refl, sym, ap, ◌∙◌, subst}
use Rattle.std.specs.List.{AllByRecursion}
use Rattle.std.proofs.lemmas.Bool.{and_from, eq-eqb}
use Rattle.lsp_wire.specs.declared.types.Position.{Position}
use Rattle.lsp_wire.specs.declared.types.Area.{Area}
use Rattle.lsp_wire.specs.declared.types.Note.{Note}
use Rattle.lsp_wire.specs.declared.types.Id.{Id}
use Rattle.lsp_wire.specs.declared.types.Call.{Call}
use Rattle.lsp_wire.specs.declared.types.Call.TheVariants.{Initialize, Shutdown, Definition, References, Symbols, BadParams, Unknown}
use Rattle.lsp_wire.specs.declared.types.Notice as told
use Rattle.lsp_wire.specs.declared.types.Notice.TheVariants.{Exit, Open, Change, Close, Files, Other}
use Rattle.lsp_wire.specs.declared.types.Incoming.{Incoming}
use Rattle.lsp_wire.specs.declared.types.Incoming.TheVariants.{Request, Notice, Dropped, Invalid}
use Rattle.lsp_answers.specs.States.{State, After, Opened, Named, Meaning, LooksAtTexts, judged, judged_change, judged_reads, judged_root, limit_of, unless_limit, same_position, same_area, same_notes, was_sent, others_notices, notices, after_dues, notice}
use Rattle.lsp_session.specs.declared.phase.Phase.{Phase}
use Rattle.lsp_session.specs.declared.phase.Phase.TheVariants.{Uninitialized, Running, Stopped}
use Rattle.lsp_session.specs.NotesSent.{AreSent, HasOpenedNone, HasSent, KeepsDocuments}
use Rattle.lsp_session.specs.SessionOutput.{notice_frames, refusal, requested_by, noticed, told_running, told_idle, notified, handled}

-- ---- after notices were sent

abbrev Notes : Type 0
Notes = List ℕ → List Note

abbrev with_sent : Notes → Opened → Opened
with_sent notes o = record { name = o.name; uri = o.uri; sent = Some (notes o.name) }

abbrev Sent : Notes → List Opened → Type 0
Sent notes os = AllByRecursion (λ o. o.sent ≡ Some (notes o.name)) os

all_sent : (now later : Notes) → ((name : List ℕ) → now name ≡ later name) → (os : List Opened) → Sent later (map (with_sent now) os)
all_sent now later same [] = tt
all_sent now later same (o ∷ os) = (ap Some (same o.name), all_sent now later same os)

noticed_sent : (m : Meaning) → LooksAtTexts m → (after : After) → AreSent m (noticed m after).state
noticed_sent m looks after =
    record {
      none_due = refl;
      sent = all_sent (m.notes_of after.state) (m.notes_of (after_dues m.notes_of after.state)) (λ name. looks.notes after.state (after_dues m.notes_of after.state) name refl) after.state.opened;
    }

-- ---- message by message

-- two states have the same documents
abbrev Keeps : State → State → Type 0
Keeps s t = (t.opened ≡ s.opened) × (t.due ≡ s.due)

limit_keeps : (s t : State) (limit : Option ℕ) (after : After) → Keeps s t → Keeps s after.state → Keeps s (unless_limit limit t after).state
limit_keeps s t None after now later = later
limit_keeps s t (Some said) after now later = now

-- files that are read keep the documents
reads_keep : (m : Meaning) → LooksAtTexts m → (s t : State) (names : List (List ℕ)) → Keeps s t → Keeps s (judged_reads m.after_read t names).state
reads_keep m looks s t [] now = now
reads_keep m looks s t (name ∷ names) now =
    let next : Keeps s (m.after_read t name) = (looks.read_opened t name ∙ now.0, looks.read_due t name ∙ now.1) in
    limit_keeps s t (limit_of t) (judged_reads m.after_read (m.after_read t name) names) now (reads_keep m looks s (m.after_read t name) names next)

root_sent : (m : Meaning) → LooksAtTexts m → (s : State) (root : Option (List ℕ)) → HasOpenedNone s → AreSent m (judged_root m s root).state
root_sent m looks s root none =
    let t = (judged_root m s root).state in
    let P : List Opened → Type 0 = λ os. Sent (m.notes_of t) os in
    let keeps : Keeps s t = reads_keep m looks s (m.after_root s root) (m.root_modules s root) (looks.root_opened s root, looks.root_due s root) in
    record {
      none_due = keeps.1 ∙ none.none_due;
      sent = subst P (sym (keeps.0 ∙ none.none)) tt;
    }

requested_sent : (m : Meaning) → LooksAtTexts m → (phase : Phase) (s : State) (id : Id) (call : Call) → HasSent m phase s → HasSent m (requested_by (refusal phase call) m phase s id call).phase (requested_by (refusal phase call) m phase s id call).state
requested_sent m looks Uninitialized s id (Initialize root) h = root_sent m looks s root h
requested_sent m looks Uninitialized s id Shutdown h = h
requested_sent m looks Uninitialized s id (Definition uri at) h = h
requested_sent m looks Uninitialized s id (References uri at declared) h = h
requested_sent m looks Uninitialized s id (Symbols uri) h = h
requested_sent m looks Uninitialized s id BadParams h = h
requested_sent m looks Uninitialized s id Unknown h = h
requested_sent m looks Running s id (Initialize root) h = h
requested_sent m looks Running s id Shutdown h = h
requested_sent m looks Running s id (Definition uri at) h = h
requested_sent m looks Running s id (References uri at declared) h = h
requested_sent m looks Running s id (Symbols uri) h = h
requested_sent m looks Running s id BadParams h = h
requested_sent m looks Running s id Unknown h = h
requested_sent m looks Stopped s id call h = h

running_sent : (m : Meaning) → LooksAtTexts m → (s : State) (n : told.Notice) → AreSent m s → HasSent m (told_running m s n).phase (told_running m s n).state
running_sent m looks s Exit h = h
running_sent m looks s (Open uri text) h = noticed_sent m looks (judged (m.after_open s uri text))
running_sent m looks s (Change uri changes) h = noticed_sent m looks (judged_change m s uri changes)
running_sent m looks s (Close uri) h = noticed_sent m looks (judged (m.after_close s uri))
running_sent m looks s (Files events) h = noticed_sent m looks (judged (m.after_files s events))
running_sent m looks s Other h = h

idle_sent : (m : Meaning) (phase : Phase) (s : State) (n : told.Notice) → HasSent m phase s → HasSent m (told_idle phase s n).phase (told_idle phase s n).state
idle_sent m phase s Exit h = h
idle_sent m phase s (Open uri text) h = h
idle_sent m phase s (Change uri changes) h = h
idle_sent m phase s (Close uri) h = h
idle_sent m phase s (Files events) h = h
idle_sent m phase s Other h = h

notified_sent : (m : Meaning) → LooksAtTexts m → (phase : Phase) (s : State) (n : told.Notice) → HasSent m phase s → HasSent m (notified m phase s n).phase (notified m phase s n).state
notified_sent m looks Uninitialized s n h = idle_sent m Uninitialized s n h
notified_sent m looks Running s n h = running_sent m looks s n h
notified_sent m looks Stopped s n h = idle_sent m Stopped s n h

pub always_sent : (m : Meaning) → LooksAtTexts m → (phase : Phase) (s : State) (message : Incoming) → HasSent m phase s → HasSent m (handled m phase s message).phase (handled m phase s message).state
always_sent m looks phase s (Request id call) h = requested_sent m looks phase s id call h
always_sent m looks phase s (Notice n) h = notified_sent m looks phase s n h
always_sent m looks phase s Dropped h = h
always_sent m looks phase s (Invalid code id) h = h

-- ---- nothing is sent anew

same_place : (a : Position) → same_position a a ≡ true
same_place a = and_from _ _ (eq-eqb a.line a.line refl) (eq-eqb a.unit a.unit refl)

same_range : (a : Area) → same_area a a ≡ true
same_range a = and_from _ _ (same_place a.start) (same_place a.end)

same_list : (notes : List Note) → same_notes notes notes ≡ true
same_list [] = refl
same_list (a ∷ notes) =
    and_from _ _ (and_from _ _ (eq-eqb a.code a.code refl) (same_range a.area)) (same_list notes)

sent_before : (sent : Option (List Note)) (notes : List Note) → sent ≡ Some notes → was_sent sent notes ≡ true
sent_before sent notes e = ap (λ o. was_sent o notes) e ∙ same_list notes

none_anew : (notes : Notes) (os : List Opened) → Sent notes os → others_notices notes os ≡ []
none_anew notes [] h = refl
none_anew notes (o ∷ os) h =
    ap (λ b. cond b [] (notice notes o ∷ []) ++ others_notices notes os) (sent_before o.sent (notes o.name) h.0) ∙ none_anew notes os h.1

kept : (notes : Notes) (os : List Opened) → Sent notes os → map (with_sent notes) os ≡ os
kept notes [] h = refl
kept notes (o ∷ os) h =
    ap (λ sent. record { name = o.name; uri = o.uri; sent = sent } ∷ map (with_sent notes) os) (sym h.0) ∙ ap (λ more. o ∷ more) (kept notes os h.1)

moved : (now later : Notes) → ((name : List ℕ) → now name ≡ later name) → (os : List Opened) → Sent now os → Sent later os
moved now later same [] h = tt
moved now later same (o ∷ os) h = (h.0 ∙ ap Some (same o.name), moved now later same os h.1)

abbrev put : State → List Opened → Option Named → State
put t opened due = record t { opened = opened; due = due }

pub ignored_sends_nothing : (m : Meaning) → LooksAtTexts m → (s : State) (after : After) → AreSent m s → KeepsDocuments s after.state → ((noticed m after).bytes ≡ []) × ((noticed m after).state ≡ after.state)
ignored_sends_nothing m looks s after h keeps =
    let t = after.state in
    let now = m.notes_of t in
    let P : List Opened → Type 0 = λ os. Sent now os in
    let sent : Sent now t.opened = subst P (sym keeps.opened) (moved (m.notes_of s) now (λ name. looks.notes s t name (sym keeps.texts)) s.opened h.sent) in
    let due : t.due ≡ None = keeps.due ∙ h.none_due in
    (ap notice_frames (ap (λ d. notices now d t.opened) due ∙ none_anew now t.opened sent), ap (λ os. put t os None) (kept now t.opened sent) ∙ ap (λ d. put t t.opened d) (sym due))
