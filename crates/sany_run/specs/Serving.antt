-- What the program does as a server: a session over the texts of a folder.
use Rattle.std.specs.Prelude.{◌≡◌, ℕ, List, Option, IfSome}
use Rattle.std.specs.Bool.{OnFalse, OnTrue}
use Rattle.std.specs.Io.KnownBytes.{Appends, Consumes}
use Rattle.tool_io.specs.Folder.{Told}
use Rattle.tool_output.specs.Output.{AppendsFront}
use Rattle.lsp_answers.specs.States.{State}
use Rattle.lsp_serve.specs.Ends.{is_done, is_fault}
use Rattle.lsp_serve.specs.InTime.{IsInTime}
use Rattle.lsp_serve.specs.Serving.{IsSession, Served}
use Rattle.server_documents.specs.Held.{nothing}
use Rattle.server_folder.specs.Folders.{with_told}
use Rattle.server_texts.specs.Server.{server_meaning}

-- nothing is held yet, over a folder that tells this
abbrev pub started : Option Told → State
started told = with_told nothing told

-- The bytes written are from the front of the session's. Without fault all of them are written and the status is the session's, and but
-- for a limit the folder is left as the session's calls leave it.
pub record HasServed (all : Served) (status : ℕ) (told : Option Told) (old new : Option (List ℕ)) : Type 0 where
  pub front : AppendsFront old new all.bytes
  pub whole : OnFalse (is_fault status) ((status ≡ all.status) × Appends old new all.bytes)
  pub left : OnTrue (is_done status) (told ≡ all.state.folder)

-- so it is over a folder and an input that tell
abbrev pub ServesFolder : Option Told → Option (List ℕ) → ℕ → Option Told → Option (List ℕ) → Option (List ℕ) → Type 0
ServesFolder told input status told_after old new =
    IfSome told (λ _. IfSome input (λ stream. (all : Served) → IsSession server_meaning (started told) stream all → HasServed all status told_after old new))

-- and each message is answered before the input is read further
abbrev pub ServesInTime : Option Told → Option (List ℕ) → Option (List ℕ) → ℕ → ℕ → Option (List ℕ) → Option (List ℕ) → Type 0
ServesInTime told input input_after last status old new =
    (read : List ℕ) × Consumes input input_after read × IfSome told (λ _. IfSome input_after (λ _. IsInTime server_meaning (started told) read last status old new))
