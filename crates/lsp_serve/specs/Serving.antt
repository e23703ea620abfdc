-- What a session comes to over a whole stream: the bytes that it writes, its status, and what whoever answers holds in the end.
use Rattle.std.specs.Prelude.{◌≡◌, ℕ, ◌^◌, nat_lt, Bool, if◌then◌else◌, List, [], ◌∷◌, ◌++◌, length, take, Option, Some, None, IsSome, ⊤}
use Rattle.rpc_frame.specs.Streams.{Rest, Nothing, Begun, Long, Broken, IsApart}
use Rattle.lsp_wire.specs.Messages.{message_in}
use Rattle.lsp_wire.specs.declared.types.Change.{Change}
use Rattle.lsp_wire.specs.declared.types.FileEvent.{FileEvent}
use Rattle.lsp_answers.specs.States.{State, Meaning}
use Rattle.lsp_session.specs.declared.phase.Phase.{Phase}
use Rattle.lsp_session.specs.declared.phase.Phase.TheVariants.{Uninitialized}
use Rattle.lsp_session.specs.declared.phase.Turn.{Turn}
use Rattle.lsp_session.specs.declared.phase.Turn.TheVariants.{On, Ended}
use Rattle.lsp_session.specs.SessionOutput.{Outcome, handled, exit_status, Tells}

-- the most bytes of a stream that are looked at
abbrev pub most_input : ℕ
most_input = 2 ^ 40

-- all bytes that are written, the status, and what whoever answers holds in the end
pub record Served : Type 0 where
  pub bytes : List ℕ
  pub status : ℕ
  pub state : State

-- what the message does that is a frame's content
unfoldable pub step : Meaning → Phase → State → List ℕ → Outcome
step m phase s content = handled m phase s (message_in content)

-- a message that meets a limit ends the session and writes nothing, not even its answer; `exit` ends it, too
abbrev pub after_by : Option ℕ → Turn → Outcome → Served → Served
after_by (Some said) turn o later = record { bytes = []; status = 7; state = o.state }
after_by None (Ended status) o later = record { bytes = o.bytes; status = status; state = o.state }
after_by None On o later = record later { bytes = o.bytes ++ later.bytes }

-- a message, and what comes behind it if the session goes on
abbrev pub after_message : Outcome → Served → Served
after_message o later = after_by o.limit o.turn o later

-- the status where no message ends the session: by what stands behind the frames, and whether bytes follow that are not looked at
abbrev pub end_status : Phase → Bool → Rest → ℕ
end_status phase over Nothing = if over then 7 else exit_status phase
end_status phase over Begun = if over then 7 else 1
end_status phase over (Long said) = 7
end_status phase over (Broken place) = 8

-- a session goes from here over the contents of frames, one after another, and to what stands behind them
abbrev pub served : Meaning → Phase → State → List (List ℕ) → Bool → Rest → Served
served m phase s [] over rest = record { bytes = []; status = end_status phase over rest; state = s }
served m phase s (content ∷ contents) over rest =
    after_message (step m phase s content) (served m (step m phase s content).phase (step m phase s content).state contents over rest)

-- what a session comes to over this stream, from its first message on: its frames are those of the bytes that are looked at
pub record IsSession (m : Meaning) (s : State) (stream : List ℕ) (all : Served) : Type 0 where
  pub contents : List (List ℕ)
  pub rest : List ℕ
  pub kind : Rest
  pub apart : IsApart (take most_input stream) contents rest kind
  pub is : all ≡ served m Uninitialized s contents (nat_lt most_input (length stream)) kind

-- ---- where the folder has to tell

-- the folder tells, where the message asks it that is a frame's content
unfoldable pub StepTells : Phase → State → List ℕ → Type 0
StepTells phase s content = Tells phase s (message_in content)

-- what is asked of the messages behind one, if the session goes on
abbrev pub Behind : Option ℕ → Turn → Type 0 → Type 0
Behind (Some said) turn P = ⊤
Behind None (Ended status) P = ⊤
Behind None On P = P

-- the folder tells, where messages ask it, up to the one that ends the session
abbrev pub AllTell : Meaning → Phase → State → List (List ℕ) → Type 0
AllTell m phase s [] = ⊤
AllTell m phase s (content ∷ contents) =
    StepTells phase s content × Behind (step m phase s content).limit (step m phase s content).turn (AllTell m (step m phase s content).phase (step m phase s content).state contents)

-- the folder tells, where the messages of this stream ask it
abbrev pub FolderTells : Meaning → State → List ℕ → Type 0
FolderTells m s stream =
    (contents : List (List ℕ)) (rest : List ℕ) (kind : Rest) → IsApart (take most_input stream) contents rest kind → AllTell m Uninitialized s contents

-- a folder that tells goes on telling, whatever is called
pub record KeepsTelling (m : Meaning) : Type 0 where
  pub root : (s : State) (root : Option (List ℕ)) → IsSome s.folder → IsSome (m.after_root s root).folder
  pub read : (s : State) (name : List ℕ) → IsSome s.folder → IsSome (m.after_read s name).folder
  pub opens : (s : State) (uri text : List ℕ) → IsSome s.folder → IsSome (m.after_open s uri text).folder
  pub changes : (s : State) (uri : List ℕ) (changes : List Change) → IsSome s.folder → IsSome (m.after_change s uri changes).folder
  pub closes : (s : State) (uri : List ℕ) → IsSome s.folder → IsSome (m.after_close s uri).folder
  pub files : (s : State) (events : List FileEvent) → IsSome s.folder → IsSome (m.after_files s events).folder
