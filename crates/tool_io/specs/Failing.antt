-- When an object in memory fails.
use Rattle.std.specs.Prelude.{◌≡◌, ℕ, ◌+◌, ◌-◌, ◌^◌, Bool, ◌==◌, min, Result, Ok, Err}
use Rattle.std.specs.List.{list_any}
use Rattle.tool_io.specs.declared.IoFault.{IoFault}
use Rattle.tool_io.specs.declared.IoFault.TheVariants.{Failed, Memory}
use Rattle.tool_io.specs.declared.failures.Failures.{Failures}

-- the number of the next call
abbrev pub next_call : Failures → ℕ
next_call f = min (f.calls + 1) (2 ^ 64 - 1)

-- the next call is one that fails
abbrev pub is_next_due : Failures → Bool
is_next_due f = list_any (λ number. number == next_call f) f.fails

-- one more call was counted, and the same ones fail
pub record CountsCall (old new : Failures) : Type 0 where
  pub calls : new.calls ≡ next_call old
  pub fails : new.fails ≡ old.fails

-- the object failed; want of memory is no failure of it
abbrev pub IsFailure : IoFault → Type 0
IsFailure Failed = Unit {0}
IsFailure Memory = ⊥

-- a call answered a failure
abbrev pub HasFailed : {T : Type 0} → Result T IoFault → Type 0
HasFailed (Ok _) = ⊥
HasFailed (Err fault) = IsFailure fault
