-- One message: what becomes of it.
use Rattle.std.proofs.Common.{◌≡◌, ℕ, ℤ, List, [], ◌++◌, Option, Some, None, ◌⊎◌, inl, inr, Result, Ok, Err, refl, sym, ap, ◌∙◌, subst}
use Rattle.std.specs.Prelude.{⊤}
use Rattle.std.specs.Io.KnownBytes.{Appends}
use Rattle.tool_output.proofs.Appending.{appends_nothing}
use Rattle.lsp_wire.specs.Messages.{IsMessage, message_in}
use Rattle.lsp_wire.proofs.OneMessage.{is_message}
use Rattle.lsp_wire.specs.declared.types.Id.{Id}
use Rattle.lsp_wire.specs.declared.types.Call.{Call}
use Rattle.lsp_wire.specs.declared.types.Call.TheVariants.{Initialize, Shutdown, Definition, References, Symbols, BadParams, Unknown}
use Rattle.lsp_wire.specs.declared.types.Notice as told
use Rattle.lsp_wire.specs.declared.types.Notice.TheVariants.{Exit, Open, Change, Close, Files, Other}
use Rattle.lsp_wire.specs.declared.types.Incoming.{Incoming}
use Rattle.lsp_wire.specs.declared.types.Incoming.TheVariants.{Request, Notice, Dropped, Invalid}
use Rattle.lsp_answers.specs.States.{State, Meaning}
use Rattle.lsp_session.specs.declared.phase.Phase.{Phase}
use Rattle.lsp_session.specs.declared.phase.Phase.TheVariants.{Uninitialized, Running, Stopped}
use Rattle.lsp_session.specs.declared.phase.Turn.{Turn}
use Rattle.lsp_session.specs.declared.phase.Turn.TheVariants.{On, Ended}
use Rattle.lsp_session.specs.declared.phase.SessionFault.{SessionFault}
use Rattle.lsp_session.specs.declared.phase.SessionFault.TheVariants as fault
use Rattle.lsp_session.specs.SessionOutput.{Outcome, Tells, IsDone, GoesOn, HasSessionCause, handled, refusal, requested_by, answered, notified, told_idle, told_running}
use Rattle.lsp_serve.specs.declared.ends.End.{End}
use Rattle.lsp_serve.specs.declared.ends.End.TheVariants.{Done, FolderFault, InputFault, OutputFault, NoMemory, Limit, BadHeader}
use Rattle.lsp_serve.specs.Ends.{end_of_fault, IsOfBytes}
use Rattle.lsp_serve.specs.Serving.{step, StepTells}
use Rattle.lsp_serve.specs.Walk.{IsWritten, IsMet, written_by}

abbrev pub ok : Turn → Result Turn SessionFault
ok turn = Ok turn

abbrev pub failed : SessionFault → Result Turn SessionFault
failed fault = Err fault

-- its answer was written, in whole or in part
met_written : (o : Outcome) (turn : Turn) (out : List ℕ) (phase : Phase) (s : State) (old new : Option (List ℕ)) (end : Option End) → o.limit ≡ None → out ≡ o.bytes → s ≡ o.state → phase ≡ o.phase → turn ≡ o.turn → IsWritten turn out old new end → IsMet o phase s old new end
met_written o turn out phase s old new None l b e p t w =
    record {
      on = record { unlimited = l; on = sym t ∙ w.0 };
      same_phase = p;
      same_state = e;
      written = subst (Appends old new) b w.1;
    }
met_written o turn out phase s old new (Some (Done status)) l b e p t w =
    record { unlimited = l; ended = sym t ∙ w.0; same_state = e; written = subst (Appends old new) b w.1 }
met_written o turn out phase s old new (Some FolderFault) l b e p t w = absurd w
met_written o turn out phase s old new (Some InputFault) l b e p t w = absurd w
met_written o turn out phase s old new (Some OutputFault) l b e p t w =
    record { unlimited = l; written = (w.0, w.1, sym b ∙ w.2, w.3, w.4) }
met_written o turn out phase s old new (Some NoMemory) l b e p t w =
    (w.0, w.1, ap (λ x. written_by x o.bytes) l ∙ sym b ∙ w.2, w.4)
met_written o turn out phase s old new (Some Limit) l b e p t w = absurd w
met_written o turn out phase s old new (Some BadHeader) l b e p t w = absurd w

-- it was not answered, and nothing was written
met_fault : (o : Outcome) (f : SessionFault) (before out : List ℕ) (phase : Phase) (after s : State) (old : Option (List ℕ)) → (f ≡ fault.Spent → ⊥) → IsDone {T = Turn} o before out after (Err f) → IsMet o phase s old old (Some (end_of_fault f))
met_fault o fault.Folder before out phase after s old ne d = appends_nothing old
met_fault o (fault.Limit said) before out phase after s old ne d =
    record { said = said; limit = d; written = appends_nothing old }
met_fault o fault.Memory before out phase after s old ne d =
    ([], written_by o.limit o.bytes, refl, appends_nothing old)
met_fault o fault.Spent before out phase after s old ne d = absurd (ne refl)

-- the session's answer is that of the message that the content is
pub written_met : (m : Meaning) (p : Phase) (s : State) (content : List ℕ) (turn : Turn) (before out bytes : List ℕ) (after : Phase) (now : State) (old new : Option (List ℕ)) (end : Option End) → before ≡ [] → ((message : Incoming) → IsMessage content message → Tells p s message → IsDone (handled m p s message) before out now (ok turn)) → ((message : Incoming) → IsMessage content message → GoesOn (handled m p s message) after (ok turn)) → bytes ≡ out → IsWritten turn bytes old new end → StepTells p s content → IsMet (step m p s content) after now old new end
unfolding step StepTells
written_met m p s content turn before out bytes after now old new end none does goes same w tells =
    let message = message_in content in
    let d = does message (is_message content) tells in
    let g = goes message (is_message content) in
    let o = handled m p s message in
    met_written o turn bytes after now old new end d.0 (same ∙ d.1 ∙ ap (λ l. l ++ o.bytes) none) d.2 g.0 g.1 w

pub fault_met : (m : Meaning) (p : Phase) (s : State) (content : List ℕ) (f : SessionFault) (before out : List ℕ) (after : Phase) (now : State) (old : Option (List ℕ)) (end : End) → ((message : Incoming) → IsMessage content message → Tells p s message → IsDone (handled m p s message) before out now (failed f)) → (f ≡ fault.Spent → ⊥) → end ≡ end_of_fault f → StepTells p s content → IsMet (step m p s content) after now old old (Some end)
unfolding step StepTells
fault_met m p s content f before out after now old end does ne e tells =
    let message = message_in content in
    let o = handled m p s message in
    let P : End → Type 0 = λ x. IsMet o after now old old (Some x) in
    subst P (sym e) (met_fault o f before out after now now old ne (does message (is_message content) tells))

-- ---- a session ends with 0 or 1

abbrev IsPlainTurn : Turn → Type 0
IsPlainTurn On = ⊤
IsPlainTurn (Ended status) = (status ≡ 0) ⊎ (status ≡ 1)

plain_answered : (m : Meaning) (s : State) (id : Id) (call : Call) → IsPlainTurn (answered m s id call).turn
plain_answered m s id (Initialize root) = tt
plain_answered m s id Shutdown = tt
plain_answered m s id (Definition uri at) = tt
plain_answered m s id (References uri at declared) = tt
plain_answered m s id (Symbols uri) = tt
plain_answered m s id BadParams = tt
plain_answered m s id Unknown = tt

plain_requested : (code : Option ℤ) (m : Meaning) (p : Phase) (s : State) (id : Id) (call : Call) → IsPlainTurn (requested_by code m p s id call).turn
plain_requested None m p s id call = plain_answered m s id call
plain_requested (Some code) m p s id call = tt

plain_running : (m : Meaning) (s : State) (n : told.Notice) → IsPlainTurn (told_running m s n).turn
plain_running m s Exit = inr refl
plain_running m s (Open uri text) = tt
plain_running m s (Change uri changes) = tt
plain_running m s (Close uri) = tt
plain_running m s (Files events) = tt
plain_running m s Other = tt

plain_uninitialized : (s : State) (n : told.Notice) → IsPlainTurn (told_idle Uninitialized s n).turn
plain_uninitialized s Exit = inr refl
plain_uninitialized s (Open uri text) = tt
plain_uninitialized s (Change uri changes) = tt
plain_uninitialized s (Close uri) = tt
plain_uninitialized s (Files events) = tt
plain_uninitialized s Other = tt

plain_stopped : (s : State) (n : told.Notice) → IsPlainTurn (told_idle Stopped s n).turn
plain_stopped s Exit = inl refl
plain_stopped s (Open uri text) = tt
plain_stopped s (Change uri changes) = tt
plain_stopped s (Close uri) = tt
plain_stopped s (Files events) = tt
plain_stopped s Other = tt

plain_notified : (m : Meaning) (p : Phase) (s : State) (n : told.Notice) → IsPlainTurn (notified m p s n).turn
plain_notified m Uninitialized s n = plain_uninitialized s n
plain_notified m Running s n = plain_running m s n
plain_notified m Stopped s n = plain_stopped s n

plain_turn : (m : Meaning) (p : Phase) (s : State) (message : Incoming) → IsPlainTurn (handled m p s message).turn
plain_turn m p s (Request id call) = plain_requested (refusal p call) m p s id call
plain_turn m p s (Notice n) = plain_notified m p s n
plain_turn m p s Dropped = tt
plain_turn m p s (Invalid code id) = tt

ends_written : (turn : Turn) (bytes : List ℕ) (old new : Option (List ℕ)) (end : Option End) → IsPlainTurn turn → IsWritten turn bytes old new end → IsOfBytes end
ends_written turn bytes old new None plain w = tt
ends_written turn bytes old new (Some (Done status)) plain w = subst IsPlainTurn w.0 plain
ends_written turn bytes old new (Some FolderFault) plain w = tt
ends_written turn bytes old new (Some InputFault) plain w = absurd w
ends_written turn bytes old new (Some OutputFault) plain w = tt
ends_written turn bytes old new (Some NoMemory) plain w = tt
ends_written turn bytes old new (Some Limit) plain w = tt
ends_written turn bytes old new (Some BadHeader) plain w = tt

pub written_ends : (m : Meaning) (p : Phase) (s : State) (content bytes : List ℕ) (turn : Turn) (after : Phase) (old new : Option (List ℕ)) (end : Option End) → ((message : Incoming) → IsMessage content message → GoesOn (handled m p s message) after (ok turn)) → IsWritten turn bytes old new end → IsOfBytes end
written_ends m p s content bytes turn after old new end goes w =
    let g = goes (message_in content) (is_message content) in
    ends_written turn bytes old new end (subst IsPlainTurn (sym g.1) (plain_turn m p s (message_in content))) w

-- a session that is not spent does not say that it is
pub unspent : (before now : ℕ) (f : SessionFault) → HasSessionCause {T = Turn} before now (Err f) → f ≡ fault.Spent → ⊥
unspent before now f h e = let P : SessionFault → Type 0 = λ x. HasSessionCause {T = Turn} before now (Err x) in subst P e h
