-- A session that is not spent does not say that it is.
use Rattle.std.proofs.Common.{◌≡◌, ◌↔◌, ℕ, Bool, false, IsTrue, Result, Err}
use Rattle.std.proofs.lemmas.Bool.{both_ways}
use Rattle.lsp_session.specs.declared.phase.Turn.{Turn}
use Rattle.lsp_session.specs.declared.phase.SessionFault.{SessionFault}
use Rattle.lsp_session.specs.declared.phase.SessionFault.TheVariants.{Folder, Limit, Memory, Spent}
use Rattle.lsp_session.specs.SessionOutput.{HasSessionCause}

other_fault : (before now : ℕ) (fault : SessionFault) → HasSessionCause {T = Turn} before now (Err fault) → fault ≡ Spent → ⊥
other_fault before now Folder h e = cc
other_fault before now (Limit said) h e = cc
other_fault before now Memory h e = cc
other_fault before now Spent h e = h

abbrev failed : SessionFault → Result Turn SessionFault
failed fault = Err fault

same_fault : (a b : SessionFault) → failed a ≡ failed b → a ≡ b
same_fault a b e = cc

pub awake : (before now : ℕ) (fault : SessionFault) (spent : Bool) → HasSessionCause {T = Turn} before now (Err fault) → spent ≡ false → (failed fault ≡ failed Spent) ↔ IsTrue spent
awake before now fault spent h awake_ =
    (λ e. absurd (other_fault before now fault h (same_fault fault Spent e)), λ t. absurd (both_ways spent awake_ t))
