-- What a session leaves, over a folder.
use Rattle.std.proofs.Common.{◌≡◌, ℕ, List, [], Option, Some, None, IsSome, IfSome, Bool, true, false, refl, ap, ◌∙◌}
use Rattle.std.specs.Bool.{OnTrue}
use Rattle.tool_io.specs.Folder.{Told}
use Rattle.lsp_answers.specs.States.{Meaning, State}
use Rattle.lsp_serve.specs.Ends.{Serves, ServesInput, is_done}
use Rattle.lsp_serve.specs.InTime.{IsInTime, ReadsInTime}
use Rattle.lsp_serve.specs.Serving.{FolderTells, KeepsTelling, Served}
use Rattle.server_texts.specs.Server.{server_meaning}
use Rattle.sany_run.specs.Serving.{HasServed, ServesFolder, ServesInTime, started}
use Rattle.sany_run.proofs.RunLemmas.{appends-nothing}
use Rattle.sany_run.proofs.TellingLemmas.{server-keeps-telling}

on-true-map : (b : Bool) {P Q : Type 0} → (P → Q) → OnTrue b P → OnTrue b Q
on-true-map true f p = f p
on-true-map false f p = tt

-- the folder is left as the session's calls leave it
left-so : (all : Served) (status : ℕ) (state : State) (told : Option Told) (old new : Option (List ℕ)) → told ≡ state.folder → Serves all status state old new → HasServed all status told old new
left-so all status state told old new left is =
    record { front = is.front; whole = is.whole; left = on-true-map (is_done status) (λ (same : state ≡ all.state). left ∙ ap (λ (s : State). s.folder) same) is.kept }

-- the folder tells wherever a message asks it
abbrev pub GoesOn : Type 0
GoesOn = (m : Meaning) (s : State) (stream : List ℕ) → KeepsTelling m → IsSome s.folder → FolderTells m s stream

pub serves-folder : GoesOn → (before after : Option Told) (input : Option (List ℕ)) (status : ℕ) (state : State) (old new : Option (List ℕ)) → after ≡ state.folder → ServesInput server_meaning (started before) input status state old new → ServesFolder before input status after old new
serves-folder goes_on None after input status state old new left is = tt
serves-folder goes_on (Some told) after None status state old new left is = tt
serves-folder goes_on (Some told) after (Some stream) status state old new left is = λ all session.
    left-so all status state after old new left (is all session (goes_on server_meaning (started (Some told)) stream server-keeps-telling refl))

over-told : GoesOn → (told : Option Told) (read : List ℕ) (input_after : Option (List ℕ)) (last status : ℕ) (old new : Option (List ℕ)) → IfSome input_after (λ _. FolderTells server_meaning (started told) read → IsInTime server_meaning (started told) read last status old new)
    → IfSome told (λ _. IfSome input_after (λ _. IsInTime server_meaning (started told) read last status old new))
over-told goes_on None read input_after last status old new is = tt
over-told goes_on (Some told) read None last status old new is = tt
over-told goes_on (Some told) read (Some left) last status old new is = is (goes_on server_meaning (started (Some told)) read server-keeps-telling refl)

pub serves-in-time : GoesOn → (told : Option Told) (input input_after : Option (List ℕ)) (last status : ℕ) (old new : Option (List ℕ)) → ReadsInTime server_meaning (started told) input input_after last status old new → ServesInTime told input input_after last status old new
serves-in-time goes_on told input input_after last status old new is = (is.0, is.1, over-told goes_on told is.0 input_after last status old new is.2)

-- nothing is written of a session, where there was no room
pub serves-nothing : (told : Option Told) (input old : Option (List ℕ)) → ServesFolder told input 6 told old old
serves-nothing None input old = tt
serves-nothing (Some told) None old = tt
serves-nothing (Some told) (Some stream) old = λ all session. record { front = ([], all.bytes, refl, appends-nothing old); whole = tt; left = tt }
