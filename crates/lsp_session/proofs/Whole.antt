-- What a session writes are whole frames.
use Rattle.std.proofs.Common.{◌≡◌, ℕ, ℤ, List, [], ◌∷◌, ◌++◌, map, flat_map, Option, Some, None, refl, sym, ap}
use Rattle.std.proofs.lemmas.List.{append-nil}
use Rattle.rpc_frame.specs.Frames.{frame_of}
use Rattle.lsp_wire.specs.declared.types.Id.{Id}
use Rattle.lsp_wire.specs.declared.types.Call.{Call}
use Rattle.lsp_wire.specs.declared.types.Call.TheVariants.{Initialize, Shutdown, Definition, References, Symbols, BadParams, Unknown}
use Rattle.lsp_wire.specs.declared.types.Notice as told
use Rattle.lsp_wire.specs.declared.types.Notice.TheVariants.{Exit, Open, Change, Close, Files, Other}
use Rattle.lsp_wire.specs.declared.types.Incoming.{Incoming}
use Rattle.lsp_wire.specs.declared.types.Incoming.TheVariants.{Request, Notice, Dropped, Invalid}
use Rattle.lsp_wire.specs.Written.{notes_content}
use Rattle.lsp_answers.specs.declared.Due.{Due}
use Rattle.lsp_answers.specs.States.{State, After, Meaning, judged, judged_change, dues_of}
use Rattle.lsp_session.specs.declared.phase.Phase.{Phase}
use Rattle.lsp_session.specs.declared.phase.Phase.TheVariants.{Uninitialized, Running, Stopped}
use Rattle.lsp_session.specs.SessionOutput.{notice_frames, answered, requested_by, refusal, noticed, told_running, told_idle, notified, handled}

abbrev AreWhole : List ℕ → Type 0
AreWhole bytes = (contents : List (List ℕ)) × (bytes ≡ flat_map frame_of contents)

none : AreWhole []
none = ([], refl)

one : (content : List ℕ) → AreWhole (frame_of content)
one content = (content ∷ [], sym (append-nil (frame_of content)))

abbrev content_of : Due → List ℕ
content_of due = notes_content due.uri due.notes

notices : (dues : List Due) → notice_frames dues ≡ flat_map frame_of (map content_of dues)
notices [] = refl
notices (due ∷ dues) = ap (λ l. frame_of (content_of due) ++ l) (notices dues)

noticed_whole : (m : Meaning) (after : After) → AreWhole (noticed m after).bytes
noticed_whole m after =
    let dues = dues_of m.notes_of after.state in (map content_of dues, notices dues)

answered_whole : (m : Meaning) (s : State) (id : Id) (call : Call) → AreWhole (answered m s id call).bytes
answered_whole m s id (Initialize root) = one _
answered_whole m s id Shutdown = one _
answered_whole m s id (Definition uri at) = one _
answered_whole m s id (References uri at declared) = one _
answered_whole m s id (Symbols uri) = one _
answered_whole m s id BadParams = none
answered_whole m s id Unknown = none

requested_whole : (code : Option ℤ) (m : Meaning) (phase : Phase) (s : State) (id : Id) (call : Call) → AreWhole (requested_by code m phase s id call).bytes
requested_whole None m phase s id call = answered_whole m s id call
requested_whole (Some code) m phase s id call = one _

running_whole : (m : Meaning) (s : State) (n : told.Notice) → AreWhole (told_running m s n).bytes
running_whole m s Exit = none
running_whole m s (Open uri text) = noticed_whole m (judged (m.after_open s uri text))
running_whole m s (Change uri changes) = noticed_whole m (judged_change m s uri changes)
running_whole m s (Close uri) = noticed_whole m (judged (m.after_close s uri))
running_whole m s (Files events) = noticed_whole m (judged (m.after_files s events))
running_whole m s Other = none

idle_whole : (phase : Phase) (s : State) (n : told.Notice) → AreWhole (told_idle phase s n).bytes
idle_whole phase s Exit = none
idle_whole phase s (Open uri text) = none
idle_whole phase s (Change uri changes) = none
idle_whole phase s (Close uri) = none
idle_whole phase s (Files events) = none
idle_whole phase s Other = none

notified_whole : (m : Meaning) (phase : Phase) (s : State) (n : told.Notice) → AreWhole (notified m phase s n).bytes
notified_whole m Uninitialized s n = idle_whole Uninitialized s n
notified_whole m Running s n = running_whole m s n
notified_whole m Stopped s n = idle_whole Stopped s n

pub handled_whole : (m : Meaning) (phase : Phase) (s : State) (message : Incoming) → AreWhole (handled m phase s message).bytes
handled_whole m phase s (Request id call) = requested_whole (refusal phase call) m phase s id call
handled_whole m phase s (Notice n) = notified_whole m phase s n
handled_whole m phase s Dropped = none
handled_whole m phase s (Invalid code id) = one _
