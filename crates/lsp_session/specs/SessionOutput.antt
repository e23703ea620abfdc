-- What a message does to a session, and what is answered.
use Rattle.std.specs.Prelude.{◌≡◌, ℕ, ℤ, Bool, true, false, List, [], ◌++◌, Option, Some, None, IsSome, flat_map, Result, Ok, Err, ⊤}
use Rattle.tool_io.specs.Causes.{Rose}
use Rattle.lsp_wire.specs.declared.types.Id.{Id}
use Rattle.lsp_wire.specs.declared.types.Call.{Call}
use Rattle.lsp_wire.specs.declared.types.Call.TheVariants.{Initialize, Shutdown, Definition, References, Symbols, BadParams, Unknown}
use Rattle.lsp_wire.specs.declared.types.Notice as told
use Rattle.lsp_wire.specs.declared.types.Notice.TheVariants.{Exit, Open, Change, Close, Files, Other}
use Rattle.lsp_wire.specs.declared.types.Incoming.{Incoming}
use Rattle.lsp_wire.specs.declared.types.Incoming.TheVariants.{Request, Notice, Dropped, Invalid}
use Rattle.lsp_wire.specs.declared.types.Reply.TheVariants.{Initialized, Null}
use Rattle.lsp_wire.specs.Errors.{invalid_request, method_not_found, invalid_params, server_not_initialized}
use Rattle.rpc_frame.specs.Frames.{frame_of}
use Rattle.lsp_wire.specs.Replies.{reply_content}
use Rattle.lsp_wire.specs.Written.{error_content, notes_content}
use Rattle.lsp_answers.specs.declared.AnswerFault.{AnswerFault}
use Rattle.lsp_answers.specs.declared.AnswerFault.TheVariants as answer
use Rattle.lsp_answers.specs.declared.Due.{Due}
use Rattle.lsp_answers.specs.States.{State, After, Meaning, judged, judged_change, judged_root, dues_of, after_dues}
use Rattle.lsp_session.specs.declared.phase.Phase.{Phase}
use Rattle.lsp_session.specs.declared.phase.Phase.TheVariants.{Uninitialized, Running, Stopped}
use Rattle.lsp_session.specs.declared.phase.Turn.{Turn}
use Rattle.lsp_session.specs.declared.phase.Turn.TheVariants.{On, Ended}
use Rattle.lsp_session.specs.declared.phase.SessionFault.{SessionFault}
use Rattle.lsp_session.specs.declared.phase.SessionFault.TheVariants.{Folder, Limit, Memory, Spent}

-- a session after a message: its phase, the state of its answers, the bytes that were written, how it
-- goes on, and the limit that the message met instead
pub record Outcome : Type 0 where
  pub phase : Phase
  pub state : State
  pub bytes : List ℕ
  pub turn : Turn
  pub limit : Option ℕ

-- the texts stay as they are
abbrev pub wrote : Phase → State → List ℕ → Outcome
wrote phase s bytes = record { phase = phase; state = s; bytes = bytes; turn = On; limit = None }

-- the frame of an error
abbrev pub refused : Id → ℤ → List ℕ
refused id code = frame_of (error_content id code)

-- why a request is refused, the first that fits: before `initialize` any other, after `shutdown` any,
-- a second `initialize`, an unknown method, bad parameters
abbrev pub refusal : Phase → Call → Option ℤ
refusal Uninitialized (Initialize root) = None
refusal Uninitialized Shutdown = Some server_not_initialized
refusal Uninitialized (Definition uri at) = Some server_not_initialized
refusal Uninitialized (References uri at declared) = Some server_not_initialized
refusal Uninitialized (Symbols uri) = Some server_not_initialized
refusal Uninitialized BadParams = Some server_not_initialized
refusal Uninitialized Unknown = Some server_not_initialized
refusal Stopped call = Some invalid_request
refusal Running (Initialize root) = Some invalid_request
refusal Running Unknown = Some method_not_found
refusal Running BadParams = Some invalid_params
refusal Running Shutdown = None
refusal Running (Definition uri at) = None
refusal Running (References uri at declared) = None
refusal Running (Symbols uri) = None

-- the client's root is taken, and what the server can do is answered
abbrev pub initialized : Meaning → State → Id → Option (List ℕ) → Outcome
initialized m s id root =
    record {
      phase = Running;
      state = (judged_root m s root).state;
      bytes = frame_of (reply_content id Initialized);
      turn = On;
      limit = (judged_root m s root).limit;
    }

-- a question is answered
abbrev pub questioned : Meaning → State → Id → Call → Outcome
questioned m s id call = wrote Running s (frame_of (reply_content id (m.reply_to s call)))

-- a request that is not refused
abbrev pub answered : Meaning → State → Id → Call → Outcome
answered m s id (Initialize root) = initialized m s id root
answered m s id Shutdown = wrote Stopped s (frame_of (reply_content id Null))
answered m s id (Definition uri at) = questioned m s id (Definition uri at)
answered m s id (References uri at declared) = questioned m s id (References uri at declared)
answered m s id (Symbols uri) = questioned m s id (Symbols uri)
answered m s id BadParams = wrote Running s []
answered m s id Unknown = wrote Running s []

-- the phase that such a request leads to
abbrev pub phase_after : Call → Phase
phase_after (Initialize root) = Running
phase_after Shutdown = Stopped
phase_after (Definition uri at) = Running
phase_after (References uri at declared) = Running
phase_after (Symbols uri) = Running
phase_after BadParams = Running
phase_after Unknown = Running

-- a request that some phase answers
abbrev pub IsAnswered : Call → Type 0
IsAnswered (Initialize root) = ⊤
IsAnswered Shutdown = ⊤
IsAnswered (Definition uri at) = ⊤
IsAnswered (References uri at declared) = ⊤
IsAnswered (Symbols uri) = ⊤
IsAnswered BadParams = ⊥
IsAnswered Unknown = ⊥

-- a request is answered, or refused with this error
abbrev pub requested_by : Option ℤ → Meaning → Phase → State → Id → Call → Outcome
requested_by None m phase s id call = answered m s id call
requested_by (Some code) m phase s id call = wrote phase s (refused id code)

-- a request
abbrev pub requested : Meaning → Phase → State → Id → Call → Outcome
requested m phase s id call = requested_by (refusal phase call) m phase s id call

-- the frame of a notice
abbrev pub notice_frame : Due → List ℕ
notice_frame due = frame_of (notes_content due.uri due.notes)

-- the frames of several notices, one behind the other
abbrev pub notice_frames : List Due → List ℕ
notice_frames dues = flat_map notice_frame dues

-- the texts changed, and the notices that this asks for were sent
abbrev pub noticed : Meaning → After → Outcome
noticed m after =
    record {
      phase = Running;
      state = after_dues m.notes_of after.state;
      bytes = notice_frames (dues_of m.notes_of after.state);
      turn = On;
      limit = after.limit;
    }

-- the status of an exit: 0 after an answered `shutdown`
abbrev pub exit_status : Phase → ℕ
exit_status Uninitialized = 1
exit_status Running = 1
exit_status Stopped = 0

-- a notification while the server runs
abbrev pub told_running : Meaning → State → told.Notice → Outcome
told_running m s Exit = record { phase = Running; state = s; bytes = []; turn = Ended 1; limit = None }
told_running m s (Open uri text) = noticed m (judged (m.after_open s uri text))
told_running m s (Change uri changes) = noticed m (judged_change m s uri changes)
told_running m s (Close uri) = noticed m (judged (m.after_close s uri))
told_running m s (Files events) = noticed m (judged (m.after_files s events))
told_running m s Other = wrote Running s []

-- before and after that only an exit is looked at
abbrev pub told_idle : Phase → State → told.Notice → Outcome
told_idle phase s Exit = record { phase = phase; state = s; bytes = []; turn = Ended (exit_status phase); limit = None }
told_idle phase s (Open uri text) = wrote phase s []
told_idle phase s (Change uri changes) = wrote phase s []
told_idle phase s (Close uri) = wrote phase s []
told_idle phase s (Files events) = wrote phase s []
told_idle phase s Other = wrote phase s []

-- a notification
abbrev pub notified : Meaning → Phase → State → told.Notice → Outcome
notified m Uninitialized s n = told_idle Uninitialized s n
notified m Running s n = told_running m s n
notified m Stopped s n = told_idle Stopped s n

-- how a session goes on after a notification
abbrev pub turn_after : Phase → told.Notice → Turn
turn_after phase Exit = Ended (exit_status phase)
turn_after phase (Open uri text) = On
turn_after phase (Change uri changes) = On
turn_after phase (Close uri) = On
turn_after phase (Files events) = On
turn_after phase Other = On

-- a message
abbrev pub handled : Meaning → Phase → State → Incoming → Outcome
handled m phase s (Request id call) = requested m phase s id call
handled m phase s (Notice n) = notified m phase s n
handled m phase s Dropped = wrote phase s []
handled m phase s (Invalid code id) = wrote phase s (refused id code)

-- the folder tells, where the answer to a request asks it
abbrev pub TellsAnswered : State → Call → Type 0
TellsAnswered s (Initialize root) = IsSome s.folder
TellsAnswered s Shutdown = ⊤
TellsAnswered s (Definition uri at) = ⊤
TellsAnswered s (References uri at declared) = ⊤
TellsAnswered s (Symbols uri) = ⊤
TellsAnswered s BadParams = ⊤
TellsAnswered s Unknown = ⊤

-- no request asks it that is refused
abbrev pub TellsRequested : Option ℤ → State → Call → Type 0
TellsRequested None s call = TellsAnswered s call
TellsRequested (Some code) s call = ⊤

-- the folder tells, where a notification asks it while the server runs
abbrev pub TellsRunning : State → told.Notice → Type 0
TellsRunning s Exit = ⊤
TellsRunning s (Open uri text) = ⊤
TellsRunning s (Change uri changes) = ⊤
TellsRunning s (Close uri) = IsSome s.folder
TellsRunning s (Files events) = IsSome s.folder
TellsRunning s Other = ⊤

-- before and after that none asks it
abbrev pub TellsNotified : Phase → State → told.Notice → Type 0
TellsNotified Uninitialized s n = ⊤
TellsNotified Running s n = TellsRunning s n
TellsNotified Stopped s n = ⊤

-- the folder tells, where the message asks it
abbrev pub Tells : Phase → State → Incoming → Type 0
Tells phase s (Request id call) = TellsRequested (refusal phase call) s call
Tells phase s (Notice n) = TellsNotified phase s n
Tells phase s Dropped = ⊤
Tells phase s (Invalid code id) = ⊤

-- of some bytes the first ones were appended, and the rest was not
pub record IsCut (old new whole : List ℕ) : Type 0 where
  pub more : List ℕ
  pub rest : List ℕ
  pub appended : new ≡ old ++ more
  pub cut : whole ≡ more ++ rest

-- what stands behind the bytes, and the state, where the call was not refused; where there was no room, a
-- beginning of what was to be written
abbrev pub IsDone : {T : Type 0} → Outcome → List ℕ → List ℕ → State → Result T SessionFault → Type 0
IsDone outcome old new s (Ok _) = (outcome.limit ≡ None) × (new ≡ old ++ outcome.bytes) × (s ≡ outcome.state)
IsDone outcome old new s (Err Folder) = ⊤
IsDone outcome old new s (Err (Limit said)) = outcome.limit ≡ Some said
IsDone outcome old new s (Err Memory) = IsCut old new outcome.bytes
IsDone outcome old new s (Err Spent) = ⊥

-- and the session's phase, and how it goes on
abbrev pub GoesOn : Outcome → Phase → Result Turn SessionFault → Type 0
GoesOn outcome phase (Ok turn) = (phase ≡ outcome.phase) × (turn ≡ outcome.turn)
GoesOn outcome phase (Err fault) = ⊤

-- a fault of the folder raises its count by one; any other answer of a session that is not spent leaves
-- the count
abbrev pub HasSessionCause : {T : Type 0} → ℕ → ℕ → Result T SessionFault → Type 0
HasSessionCause before now (Ok _) = now ≡ before
HasSessionCause before now (Err Folder) = Rose before now
HasSessionCause before now (Err (Limit said)) = now ≡ before
HasSessionCause before now (Err Memory) = now ≡ before
HasSessionCause before now (Err Spent) = ⊥

-- bytes are only added; a limit, a fault of the folder and a spent session add none
abbrev pub Adds : {T : Type 0} → List ℕ → List ℕ → Result T SessionFault → Type 0
Adds old new (Ok _) = (more : List ℕ) × (new ≡ old ++ more)
Adds old new (Err Folder) = new ≡ old
Adds old new (Err (Limit said)) = new ≡ old
Adds old new (Err Memory) = (more : List ℕ) × (new ≡ old ++ more)
Adds old new (Err Spent) = new ≡ old

-- the session ends here, with whatever status
abbrev pub is_end : Turn → Bool
is_end On = false
is_end (Ended status) = true

-- a session is spent by its end and by each fault
abbrev pub is_spent_by : Result Turn SessionFault → Bool
is_spent_by (Ok turn) = is_end turn
is_spent_by (Err fault) = true

-- a fault of whoever answers, as the session's
abbrev pub fault_of : AnswerFault → SessionFault
fault_of answer.Folder = Folder
fault_of (answer.Limit said) = Limit said
fault_of answer.Memory = Memory
