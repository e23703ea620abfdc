-- Documents with what a folder tells.
use Rattle.std.specs.Prelude.{◌≡◌, ℕ, List, [], Option, Some, None, IsSome, OnOk, option_map, Result, Ok, Err, ⊤}
use Rattle.tool_io.specs.Causes.{Rose}
use Rattle.tool_io.specs.Folder.{Told, after_call}
use Rattle.lsp_answers.specs.States.{State}
use Rattle.lsp_answers.specs.declared.AnswerFault.{AnswerFault}
use Rattle.lsp_answers.specs.declared.AnswerFault.TheVariants.{Folder, Limit, Memory}
use Rattle.server_documents.specs.Documents.{file_in, file_told, names_in}
use Rattle.server_uris.specs.Uris.{module_of}
use Rattle.lsp_wire.specs.declared.types.FileEvent.{FileEvent}

-- a state over a folder that tells this
abbrev pub with_told : State → Option Told → State
with_told s told = record s { folder = told }

-- what a folder tells once it is called, where there is a path
abbrev pub called_at : Option (List ℕ) → Option Told → Option Told
called_at None told = told
called_at (Some path) told = option_map after_call told

-- the bytes of a module's file at a path, if it is there
abbrev pub read_in : Option (List ℕ) → Option Told → List ℕ → Option (List ℕ)
read_in None told name = None
read_in (Some path) told name = file_in told path name

-- the modules of a folder at a path, in byte order
abbrev pub listed_in : Option (List ℕ) → Option Told → List (List ℕ)
listed_in None told = []
listed_in (Some path) told = names_in told path

-- a file was made, changed or deleted
abbrev pub after_file : State → FileEvent → State
after_file s event = file_told s event.gone (module_of s.root event.uri)

-- a call over a folder that tells leaves what the definition of the state leaves
abbrev pub Leaves : (State → State) → Option Told → State → Result ⊤ AnswerFault → Option Told → State → Type 0
Leaves after before old result now new =
    IsSome before → OnOk result ((with_told new now ≡ after (with_told old before)) × IsSome now)

-- a fault is of the folder, whose count rises by one, or want of memory; no limit is looked at
abbrev pub HasFolderCause : {T : Type 0} → ℕ → ℕ → Result T AnswerFault → Type 0
HasFolderCause before now (Ok _) = now ≡ before
HasFolderCause before now (Err Folder) = Rose before now
HasFolderCause before now (Err (Limit said)) = ⊥
HasFolderCause before now (Err Memory) = now ≡ before

-- a fault is a limit
abbrev pub IsLimit : AnswerFault → Type 0
IsLimit (Limit said) = ⊤
IsLimit Folder = ⊥
IsLimit Memory = ⊥
