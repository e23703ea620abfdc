-- The statuses, and what each says of what was written.
use Rattle.std.specs.Prelude.{◌≡◌, ℕ, List, Bool, ◌||◌, ◌&&◌, not, if◌then◌else◌, ◌==◌, Option, Some, None, IfSome, ◌⊎◌, ⊤}
use Rattle.std.specs.Bool.{OnFalse, OnTrue}
use Rattle.std.specs.Io.KnownBytes.{Appends}
use Rattle.tool_io.specs.Causes.{Rose}
use Rattle.tool_output.specs.Output.{AppendsFront}
use Rattle.lsp_answers.specs.States.{State, Meaning}
use Rattle.lsp_session.specs.declared.phase.Turn.{Turn}
use Rattle.lsp_session.specs.declared.phase.Turn.TheVariants.{On, Ended}
use Rattle.lsp_session.specs.declared.phase.SessionFault.{SessionFault}
use Rattle.lsp_session.specs.declared.phase.SessionFault.TheVariants as fault
use Rattle.lsp_serve.specs.declared.ends.End.{End}
use Rattle.lsp_serve.specs.declared.ends.End.TheVariants.{Done, FolderFault, InputFault, OutputFault, NoMemory, Limit, BadHeader}
use Rattle.lsp_serve.specs.Serving.{Served, IsSession, FolderTells}

-- a fault of the folder, the input or the output, or want of memory
abbrev pub is_fault : ℕ → Bool
is_fault status = status == 3 || status == 4 || status == 5 || status == 6

-- the session came to its end, or to bytes that begin no header
abbrev pub is_done : ℕ → Bool
is_done status = status == 0 || status == 1 || status == 8

-- a status that a session may end with
abbrev pub is_status : ℕ → Bool
is_status status = is_done status || is_fault status || status == 7

-- The bytes written are from the front of the session's. Without fault all of them are written and the status is the session's, and but
-- for a limit whoever answers is left as the session leaves it.
pub record Serves (all : Served) (status : ℕ) (state : State) (old new : Option (List ℕ)) : Type 0 where
  pub front : AppendsFront old new all.bytes
  pub whole : OnFalse (is_fault status) ((status ≡ all.status) × Appends old new all.bytes)
  pub kept : OnTrue (is_done status) (state ≡ all.state)

-- so it is of an input that tells, where the folder tells what it is asked
abbrev pub ServesInput : Meaning → State → Option (List ℕ) → ℕ → State → Option (List ℕ) → Option (List ℕ) → Type 0
ServesInput m s left status state old new =
    IfSome left (λ stream. (all : Served) → IsSession m s stream all → FolderTells m s stream → Serves all status state old new)

-- ---- for private clauses

-- the status of an end
abbrev pub status_of : End → ℕ
status_of (Done status) = status
status_of FolderFault = 3
status_of InputFault = 4
status_of OutputFault = 5
status_of NoMemory = 6
status_of Limit = 7
status_of BadHeader = 8

-- the end that a fault of a session is; a spent one is not asked
abbrev pub end_of_fault : SessionFault → End
end_of_fault fault.Folder = FolderFault
end_of_fault (fault.Limit said) = Limit
end_of_fault fault.Memory = NoMemory
end_of_fault fault.Spent = NoMemory

-- the end that comes after a message, if one does
abbrev pub end_of_turn : Turn → Option End
end_of_turn On = None
end_of_turn (Ended status) = Some (Done status)

-- the end where the input ends: 0 after an answered `shutdown`, but not inside a frame
abbrev pub end_of_input : Bool → Bool → End
end_of_input shut inside = Done (if shut && not inside then 0 else 1)

-- an end of a session is 0 or 1
abbrev pub IsPlain : End → Type 0
IsPlain (Done status) = (status ≡ 0) ⊎ (status ≡ 1)
IsPlain FolderFault = ⊤
IsPlain InputFault = ⊤
IsPlain OutputFault = ⊤
IsPlain NoMemory = ⊤
IsPlain Limit = ⊤
IsPlain BadHeader = ⊤

-- an end that the bytes that were read lead to
abbrev pub IsOfBytes : Option End → Type 0
IsOfBytes None = ⊤
IsOfBytes (Some (Done status)) = (status ≡ 0) ⊎ (status ≡ 1)
IsOfBytes (Some FolderFault) = ⊤
IsOfBytes (Some InputFault) = ⊥
IsOfBytes (Some OutputFault) = ⊤
IsOfBytes (Some NoMemory) = ⊤
IsOfBytes (Some Limit) = ⊤
IsOfBytes (Some BadHeader) = ⊤

-- the folder's count rose where it failed, and else stays
abbrev pub HasFolderCause : ℕ → ℕ → Option End → Type 0
HasFolderCause before now None = now ≡ before
HasFolderCause before now (Some (Done status)) = now ≡ before
HasFolderCause before now (Some FolderFault) = Rose before now
HasFolderCause before now (Some InputFault) = now ≡ before
HasFolderCause before now (Some OutputFault) = now ≡ before
HasFolderCause before now (Some NoMemory) = now ≡ before
HasFolderCause before now (Some Limit) = now ≡ before
HasFolderCause before now (Some BadHeader) = now ≡ before

-- and so does the input's
abbrev pub HasInputCause : ℕ → ℕ → Option End → Type 0
HasInputCause before now None = now ≡ before
HasInputCause before now (Some (Done status)) = now ≡ before
HasInputCause before now (Some FolderFault) = now ≡ before
HasInputCause before now (Some InputFault) = Rose before now
HasInputCause before now (Some OutputFault) = now ≡ before
HasInputCause before now (Some NoMemory) = now ≡ before
HasInputCause before now (Some Limit) = now ≡ before
HasInputCause before now (Some BadHeader) = now ≡ before

-- and the output's
abbrev pub HasOutputCause : ℕ → ℕ → Option End → Type 0
HasOutputCause before now None = now ≡ before
HasOutputCause before now (Some (Done status)) = now ≡ before
HasOutputCause before now (Some FolderFault) = now ≡ before
HasOutputCause before now (Some InputFault) = now ≡ before
HasOutputCause before now (Some OutputFault) = Rose before now
HasOutputCause before now (Some NoMemory) = now ≡ before
HasOutputCause before now (Some Limit) = now ≡ before
HasOutputCause before now (Some BadHeader) = now ≡ before
