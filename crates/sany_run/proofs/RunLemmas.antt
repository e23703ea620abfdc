-- How a run answers.
use Rattle.std.proofs.Common.{arith, ◌≡◌, ℕ, List, [], ◌∷◌, ◌++◌, Option, Some, None, Result, Ok, Err, Bool, true, false, IfOk, IfSome, ap, refl, sym, ◌∙◌, subst, if◌then◌else◌}
use Rattle.std.specs.Bool.{OnFalse, OnTrue}
use Rattle.std.specs.Io.KnownBytes.{Appends}
use Rattle.tool_io.specs.Folder.{Told}
use Rattle.sany_files.specs.Calls.{IsLeftAfter}
use Rattle.sany_files.specs.Files.{files_of, is_over_folder}
use Rattle.sany_run.specs.declared.check.Outcome.{Outcome}
use Rattle.tool_output.specs.Output.{AppendsFront}
use Rattle.sany_run.specs.Answers.{Answers, is_fault}
use Rattle.sany_run.specs.Program.{LIMIT, outcome_of_files, outcome_of_folder}

pub on_false : (b : Bool) (P : Type 0) → P → OnFalse b P
on_false true P p = tt
on_false false P p = p

after_fault : (b : Bool) (P : Type 0) → b ≡ true → OnFalse b P
after_fault true P e = tt
after_fault false P e = absurd (cc)

pub on_true : (b : Bool) (P : Type 0) → P → OnTrue b P
on_true true P p = p
on_true false P p = tt

no_more : (bytes : List ℕ) → bytes ≡ bytes ++ []
no_more [] = refl
no_more (b ∷ bytes) = ap (λ x. b ∷ x) (no_more bytes)

pub appends-nothing : (old : Option (List ℕ)) → Appends old old []
appends-nothing None = tt
appends-nothing (Some x) = no_more x

-- ---- what is written of one outcome

module _ (o : Outcome) (old new : Option (List ℕ)) where
  pub wrote-all : Appends old new o.bytes → Answers o o.status old new
  wrote-all written = record { front = (o.bytes, [], no_more o.bytes, written); whole = on_false (is_fault o.status) _ (refl, written) }

  pub wrote-front : (status : ℕ) → is_fault status ≡ true → AppendsFront old new o.bytes → Answers o status old new
  wrote-front status fault written = record { front = written; whole = after_fault (is_fault status) _ fault }

-- nothing was written of an outcome, after a fault
pub wrote-nothing : (o : Outcome) (status : ℕ) (old : Option (List ℕ)) → is_fault status ≡ true → Answers o status old old
wrote-nothing o status old fault = wrote-front o old old status fault ([], o.bytes, refl, appends-nothing old)

-- ---- what a folder tells

-- what holds of a folder holds of it on a test
pub on-told : (holds : Option Told) (b : Bool) (P : Told → Type 0) → IfSome holds P → IfSome holds (λ t. OnTrue b (P t))
on-told None b P is = tt
on-told (Some t) b P is = on_true b (P t) is

-- ---- the outcome for a folder

module _ (path : List ℕ) (facts : Bool) where
  answers-told : (o : Outcome) (status : ℕ) (old new : Option (List ℕ)) → Answers o status old new → (t : Told) → is_over_folder t path ≡ false → o ≡ outcome_of_files facts (files_of t path) → Answers (outcome_of_folder t path facts) status old new
  answers-told o status old new written t within is = subst (λ x. Answers x status old new) (is ∙ sym (ap (λ b. if b then LIMIT else outcome_of_files facts (files_of t path)) within)) written

  -- the outcome was written
  pub answers-folder : (holds : Option Told) (o : Outcome) (status : ℕ) (old new : Option (List ℕ)) → IfSome holds (λ t. is_over_folder t path ≡ false) → IfSome holds (λ t. o ≡ outcome_of_files facts (files_of t path)) → Answers o status old new → IfSome holds (λ t. Answers (outcome_of_folder t path facts) status old new)
  answers-folder None o status old new within is written = tt
  answers-folder (Some t) o status old new within is written = answers-told o status old new written t within is

  -- a limit is passed
  pub answers-limit : (holds : Option Told) (old : Option (List ℕ)) → IfSome holds (λ t. is_over_folder t path ≡ true) → IfSome holds (λ t. Answers (outcome_of_folder t path facts) 7 old old)
  answers-limit None old over = tt
  answers-limit (Some t) old over = subst (λ x. Answers x 7 old old) (sym (ap (λ b. if b then LIMIT else outcome_of_files facts (files_of t path)) over)) (wrote-all LIMIT old old (appends-nothing old))

  -- nothing was written, after a fault
  pub answers-nothing : (holds : Option Told) (status : ℕ) (old : Option (List ℕ)) → is_fault status ≡ true → IfSome holds (λ t. Answers (outcome_of_folder t path facts) status old old)
  answers-nothing None status old fault = tt
  answers-nothing (Some t) status old fault = wrote-nothing (outcome_of_folder t path facts) status old fault

-- what holds of each content holds of a folder that tells
pub told-all : (holds : Option Told) (P : Told → Type 0) → ((t : Told) → P t) → IfSome holds P
told-all None P is = tt
told-all (Some t) P is = is t

-- a folder that no call was made of is left as it was
pub left-alone : (holds : Option Told) (most : Told → ℕ) → IfSome holds (λ t. IsLeftAfter 0 (most t) t holds)
left-alone None most = tt
left-alone (Some t) most = record { calls = 0; many = omega arith; few = omega arith; left = refl }

-- what holds in any case holds of what a folder tells
pub of-told : {P : Type 0} (holds : Option Told) → P → IfSome holds (λ t. P)
of-told None p = tt
of-told (Some t) p = p

-- what holds in any case holds of an answer that is no fault
pub of-ok : {T E P : Type 0} (r : Result T E) → P → IfOk r (λ x. P)
of-ok (Ok x) p = p
of-ok (Err e) p = tt
