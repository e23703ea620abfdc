-- What a status says.
use Rattle.std.proofs.Common.{◌≡◌, ℕ, Bool, true, false, Some, refl, ap, ◌⊎◌, ◌<◌, ⊎_elim, arith}
use Rattle.std.specs.Bool.{OnFalse, OnTrue}
use Rattle.tool_output.specs.Output.{TellsFault}
use Rattle.lsp_serve.specs.declared.ends.End.{End}
use Rattle.lsp_serve.specs.declared.ends.End.TheVariants.{Done, FolderFault, InputFault, OutputFault, NoMemory, Limit, BadHeader}
use Rattle.lsp_serve.specs.Ends.{status_of, is_status, IsPlain, HasFolderCause, HasInputCause, HasOutputCause}

pub on_false : (b : Bool) (P : Type 0) → P → OnFalse b P
on_false true P p = tt
on_false false P p = p

pub on_true : (b : Bool) (P : Type 0) → P → OnTrue b P
on_true true P p = p
on_true false P p = tt

pub plain_status : (end : End) → IsPlain end → is_status (status_of end) ≡ true
plain_status (Done status) p = ⊎_elim (λ e. ap is_status e) (λ e. ap is_status e) p
plain_status FolderFault p = refl
plain_status InputFault p = refl
plain_status OutputFault p = refl
plain_status NoMemory p = refl
plain_status Limit p = refl
plain_status BadHeader p = refl

-- an end by `exit`, or of the input, is no fault
plain_is_no : (status fault : ℕ) → (status ≡ 0) ⊎ (status ≡ 1) → 1 < fault → status ≡ fault → ⊥
plain_is_no status fault p large e = ⊎_elim (λ q. omega (arith, q, e, large)) (λ q. omega (arith, q, e, large)) p

stays : (fault status before now : ℕ) → (status ≡ fault → ⊥) → now ≡ before → TellsFault fault status before now
stays fault status before now ne e = record { rose = λ q. absurd (ne q); stays = λ q. e }

pub folder_tells : (before now : ℕ) (end : End) → IsPlain end → HasFolderCause before now (Some end) → TellsFault 3 (status_of end) before now
folder_tells before now (Done status) p h = stays 3 status before now (plain_is_no status 3 p (omega arith)) h
folder_tells before now FolderFault p h = record { rose = λ q. h; stays = λ q. absurd (q refl) }
folder_tells before now InputFault p h = stays 3 4 before now (λ e. omega (arith, e)) h
folder_tells before now OutputFault p h = stays 3 5 before now (λ e. omega (arith, e)) h
folder_tells before now NoMemory p h = stays 3 6 before now (λ e. omega (arith, e)) h
folder_tells before now Limit p h = stays 3 7 before now (λ e. omega (arith, e)) h
folder_tells before now BadHeader p h = stays 3 8 before now (λ e. omega (arith, e)) h

pub input_tells : (before now : ℕ) (end : End) → IsPlain end → HasInputCause before now (Some end) → TellsFault 4 (status_of end) before now
input_tells before now (Done status) p h = stays 4 status before now (plain_is_no status 4 p (omega arith)) h
input_tells before now FolderFault p h = stays 4 3 before now (λ e. omega (arith, e)) h
input_tells before now InputFault p h = record { rose = λ q. h; stays = λ q. absurd (q refl) }
input_tells before now OutputFault p h = stays 4 5 before now (λ e. omega (arith, e)) h
input_tells before now NoMemory p h = stays 4 6 before now (λ e. omega (arith, e)) h
input_tells before now Limit p h = stays 4 7 before now (λ e. omega (arith, e)) h
input_tells before now BadHeader p h = stays 4 8 before now (λ e. omega (arith, e)) h

pub output_tells : (before now : ℕ) (end : End) → IsPlain end → HasOutputCause before now (Some end) → TellsFault 5 (status_of end) before now
output_tells before now (Done status) p h = stays 5 status before now (plain_is_no status 5 p (omega arith)) h
output_tells before now FolderFault p h = stays 5 3 before now (λ e. omega (arith, e)) h
output_tells before now InputFault p h = stays 5 4 before now (λ e. omega (arith, e)) h
output_tells before now OutputFault p h = record { rose = λ q. h; stays = λ q. absurd (q refl) }
output_tells before now NoMemory p h = stays 5 6 before now (λ e. omega (arith, e)) h
output_tells before now Limit p h = stays 5 7 before now (λ e. omega (arith, e)) h
output_tells before now BadHeader p h = stays 5 8 before now (λ e. omega (arith, e)) h
