-- Each message is answered before the input is read further.
use Rattle.std.specs.Prelude.{◌≡◌, ℕ, ◌-◌, false, List, [], ◌∷◌, ◌++◌, length, take, Option, None, IfSome, ⊤}
use Rattle.std.specs.Io.KnownBytes.{Appends, Consumes}
use Rattle.tool_output.specs.Output.{AppendsSome}
use Rattle.rpc_frame.specs.Frames.{HasFrames}
use Rattle.rpc_frame.specs.Streams.{Rest, Nothing, Begun, Long, Broken, IsApart}
use Rattle.lsp_answers.specs.States.{State, Meaning}
use Rattle.lsp_session.specs.declared.phase.Phase.{Phase}
use Rattle.lsp_session.specs.declared.phase.Phase.TheVariants.{Uninitialized}
use Rattle.lsp_session.specs.declared.phase.Turn.TheVariants.{On}
use Rattle.lsp_session.specs.SessionOutput.{Outcome}
use Rattle.lsp_serve.specs.Serving.{Served, step, served, IsSession, FolderTells}

-- the session goes on behind the message
pub record IsOn (o : Outcome) : Type 0 where
  pub unlimited : o.limit ≡ None
  pub on : o.turn ≡ On

-- it goes on behind each of these
abbrev pub AllGoOn : Meaning → Phase → State → List (List ℕ) → Type 0
AllGoOn m phase s [] = ⊤
AllGoOn m phase s (content ∷ contents) =
    IsOn (step m phase s content) × AllGoOn m (step m phase s content).phase (step m phase s content).state contents

-- nothing is left behind the frames, or a frame that has begun
abbrev pub IsUndecided : Rest → Type 0
IsUndecided Nothing = ⊤
IsUndecided Begun = ⊤
IsUndecided (Long said) = ⊥
IsUndecided (Broken place) = ⊥

-- neither a message of these bytes nor what stands behind their frames ends the session
abbrev pub LeadsOn : Meaning → State → List ℕ → Type 0
LeadsOn m s bytes =
    (contents : List (List ℕ)) (rest : List ℕ) (kind : Rest) → IsApart bytes contents rest kind → AllGoOn m Uninitialized s contents × IsUndecided kind

-- known bytes grow by these, and maybe by more
abbrev pub AppendsMore : Option (List ℕ) → Option (List ℕ) → List ℕ → Type 0
AppendsMore old new bytes = (more : List ℕ) × Appends old new (bytes ++ more)

-- a message that is whole in these bytes, before which all was written for the others, and nothing more
pub record StopsBefore (m : Meaning) (s : State) (bytes : List ℕ) (old new : Option (List ℕ)) : Type 0 where
  pub contents : List (List ℕ)
  pub content : List ℕ
  pub rest : List ℕ
  pub frames : HasFrames bytes (contents ++ content ∷ []) rest
  pub go_on : AllGoOn m Uninitialized s contents
  pub written : Appends old new (served m Uninitialized s contents false Nothing).bytes

-- what was read before a last read of so many bytes
abbrev pub before_last : ℕ → List ℕ → List ℕ
before_last last read = take (length read - last) read

-- What ended the session was not there before the last read, and all messages that were whole then are answered. A fault of the input
-- leaves all messages answered that are whole in what was read, one of the output not all of them, and one of the folder those before one.
pub record IsInTime (m : Meaning) (s : State) (read : List ℕ) (last status : ℕ) (old new : Option (List ℕ)) : Type 0 where
  pub leads_on : LeadsOn m s (before_last last read)
  pub answered : (all : Served) → IsSession m s (before_last last read) all → AppendsMore old new all.bytes
  pub input_fault : status ≡ 4 → (all : Served) → IsSession m s read all → Appends old new all.bytes
  pub output_fault : status ≡ 5 → (all : Served) → IsSession m s read all → AppendsSome old new all.bytes
  pub folder_fault : status ≡ 3 → StopsBefore m s read old new

-- so it is of an input that tells, where the folder tells what it is asked
abbrev pub ReadsInTime : Meaning → State → Option (List ℕ) → Option (List ℕ) → ℕ → ℕ → Option (List ℕ) → Option (List ℕ) → Type 0
ReadsInTime m s left now last status old new =
    (read : List ℕ) × Consumes left now read × IfSome now (λ _. FolderTells m s read → IsInTime m s read last status old new)
