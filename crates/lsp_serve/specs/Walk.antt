-- For private clauses: how far a session has come.
use Rattle.std.specs.Prelude.{◌≡◌, ℕ, List, [], ◌∷◌, ◌++◌, Option, Some, None, ◌⊎◌}
use Rattle.std.specs.Io.KnownBytes.{Appends}
use Rattle.tool_output.specs.Output.{AppendsFront, AppendsSome}
use Rattle.rpc_frame.specs.Frames.{HasFrames, IsUnfinished, IsBad, IsTooLong}
use Rattle.rpc_frame.specs.Framing.{Held, HasGiven}
use Rattle.lsp_answers.specs.States.{State, Meaning}
use Rattle.lsp_session.specs.declared.phase.Phase.{Phase}
use Rattle.lsp_session.specs.declared.phase.Phase.TheVariants.{Uninitialized}
use Rattle.lsp_session.specs.declared.phase.Turn.{Turn}
use Rattle.lsp_session.specs.declared.phase.Turn.TheVariants.{On, Ended}
use Rattle.lsp_session.specs.SessionOutput.{Outcome}
use Rattle.lsp_serve.specs.declared.ends.End.{End}
use Rattle.lsp_serve.specs.declared.ends.End.TheVariants.{Done, FolderFault, InputFault, OutputFault, NoMemory, Limit, BadHeader}
use Rattle.lsp_serve.specs.InTime.{IsOn}
use Rattle.lsp_serve.specs.Serving.{step, AllTell}

-- what is written for a message: nothing where it meets a limit
abbrev pub written_by : Option ℕ → List ℕ → List ℕ
written_by None bytes = bytes
written_by (Some said) bytes = []

-- a message let the session go on, and was answered
pub record IsAnswered (o : Outcome) (phase : Phase) (state : State) (old new : Option (List ℕ)) : Type 0 where
  pub on : IsOn o
  pub same_phase : phase ≡ o.phase
  pub same_state : state ≡ o.state
  pub written : Appends old new o.bytes

-- a message ended the session
pub record IsLast (o : Outcome) (status : ℕ) (state : State) (old new : Option (List ℕ)) : Type 0 where
  pub unlimited : o.limit ≡ None
  pub ended : o.turn ≡ Ended status
  pub same_state : state ≡ o.state
  pub written : Appends old new o.bytes

-- a message met a limit
pub record IsLimited (o : Outcome) (old new : Option (List ℕ)) : Type 0 where
  pub said : ℕ
  pub limit : o.limit ≡ Some said
  pub written : Appends old new []

-- what is written of an answer after which the session goes on in this way
abbrev pub IsWritten : Turn → List ℕ → Option (List ℕ) → Option (List ℕ) → Option End → Type 0
IsWritten turn bytes old new None = (turn ≡ On) × Appends old new bytes
IsWritten turn bytes old new (Some (Done status)) = (turn ≡ Ended status) × Appends old new bytes
IsWritten turn bytes old new (Some FolderFault) = ⊥
IsWritten turn bytes old new (Some InputFault) = ⊥
IsWritten turn bytes old new (Some OutputFault) = AppendsSome old new bytes
IsWritten turn bytes old new (Some NoMemory) = AppendsSome old new bytes
IsWritten turn bytes old new (Some Limit) = ⊥
IsWritten turn bytes old new (Some BadHeader) = ⊥

-- a message was not answered whole
pub record IsUnwritten (o : Outcome) (old new : Option (List ℕ)) : Type 0 where
  pub unlimited : o.limit ≡ None
  pub written : AppendsSome old new o.bytes

-- what became of a message: it was answered, or the session ended
abbrev pub IsMet : Outcome → Phase → State → Option (List ℕ) → Option (List ℕ) → Option End → Type 0
IsMet o phase state old new None = IsAnswered o phase state old new
IsMet o phase state old new (Some (Done status)) = IsLast o status state old new
IsMet o phase state old new (Some FolderFault) = Appends old new []
IsMet o phase state old new (Some InputFault) = ⊥
IsMet o phase state old new (Some OutputFault) = IsUnwritten o old new
IsMet o phase state old new (Some NoMemory) = AppendsFront old new (written_by o.limit o.bytes)
IsMet o phase state old new (Some Limit) = IsLimited o old new
IsMet o phase state old new (Some BadHeader) = ⊥

-- the session went from here over these contents, wrote these bytes, and stands there
abbrev pub HasGone : Meaning → Phase → State → List (List ℕ) → List ℕ → Phase → State → Type 0
HasGone m phase s [] bytes after now = (bytes ≡ []) × (after ≡ phase) × (now ≡ s)
HasGone m phase s (content ∷ contents) bytes after now =
    IsOn (step m phase s content) × (more : List ℕ) × (bytes ≡ (step m phase s content).bytes ++ more) × HasGone m (step m phase s content).phase (step m phase s content).state contents more after now

-- it went over these contents from its start, and what it wrote is what the output grew by
abbrev pub HasWritten : Meaning → State → List (List ℕ) → Phase → State → Option (List ℕ) → Option (List ℕ) → Type 0
HasWritten m s contents phase now old new =
    (bytes : List ℕ) × HasGone m Uninitialized s contents bytes phase now × Appends old new bytes

-- of what was read the framer gave some contents, and all of them were answered
pub record HasAnswered (m : Meaning) (s : State) (read : List ℕ) (held : Held) (phase : Phase) (now : State) (old new : Option (List ℕ)) : Type 0 where
  pub contents : List (List ℕ)
  pub given : HasGiven read contents held
  pub gone : AllTell m Uninitialized s contents → HasWritten m s contents phase now old new

-- nothing waits, or a frame that has begun
abbrev pub IsPart : List ℕ → Type 0
IsPart waiting = (waiting ≡ []) ⊎ IsUnfinished waiting

-- the session ended at a message that is whole in what was read, and those before it were answered
pub record EndsAt (m : Meaning) (s : State) (read : List ℕ) (now : State) (old new : Option (List ℕ)) (end : End) : Type 0 where
  pub contents : List (List ℕ)
  pub content : List ℕ
  pub rest : List ℕ
  pub frames : HasFrames read (contents ++ content ∷ []) rest
  pub gone : AllTell m Uninitialized s (contents ++ content ∷ []) →
      (phase after : Phase) × (before : State) × (mid : Option (List ℕ)) × HasWritten m s contents phase before old mid
      × IsMet (step m phase before content) after now mid new (Some end)

-- what waits ends the session so
abbrev pub IsRefused : List ℕ → End → Type 0
IsRefused waiting (Done status) = ⊥
IsRefused waiting FolderFault = ⊥
IsRefused waiting InputFault = ⊥
IsRefused waiting OutputFault = ⊥
IsRefused waiting NoMemory = ⊥
IsRefused waiting Limit = (said : ℕ) × IsTooLong waiting said
IsRefused waiting BadHeader = (place : ℕ) × IsBad waiting place

-- all messages were answered, and what stands behind them ended the session
pub record EndsBehind (m : Meaning) (s : State) (read : List ℕ) (held : Held) (phase : Phase) (now : State) (old new : Option (List ℕ)) (end : End) : Type 0 where
  pub answered : HasAnswered m s read held phase now old new
  pub refused : IsRefused held.waiting end

-- there was no room for some of what was read: all messages before were answered
pub record EndsUnfed (m : Meaning) (s : State) (read : List ℕ) (now : State) (old new : Option (List ℕ)) (end : End) : Type 0 where
  pub unfed : end ≡ NoMemory
  pub front : List ℕ
  pub more : List ℕ
  pub split : read ≡ front ++ more
  pub held : Held
  pub phase : Phase
  pub answered : HasAnswered m s front held phase now old new

-- what became of what was read
abbrev pub IsTaken : Meaning → State → List ℕ → Held → Phase → State → Option (List ℕ) → Option (List ℕ) → Option End → Type 0
IsTaken m s read held phase now old new None = HasAnswered m s read held phase now old new × IsPart held.waiting
IsTaken m s read held phase now old new (Some end) =
    EndsAt m s read now old new end ⊎ (EndsBehind m s read held phase now old new end ⊎ EndsUnfed m s read now old new end)
