-- How a run answers.
use Rattle.std.specs.Prelude.{◌≡◌, ℕ, List, Bool, ◌||◌, ◌==◌, Option, if◌then◌else◌}
use Rattle.std.specs.Bool.{OnFalse}
use Rattle.std.specs.Io.KnownBytes.{Appends}
use Rattle.tool_output.specs.Output.{AppendsFront}
use Rattle.sany_run.specs.declared.check.Outcome.{Outcome}

-- a fault of the folder, a fault of the output, or want of memory
abbrev pub is_fault : ℕ → Bool
is_fault status = status == 3 || status == 5 || status == 6

-- a fault of the folder, or want of memory: the calls of the folder may end early
abbrev pub is_stopped : ℕ → Bool
is_stopped status = status == 3 || status == 6

-- a report was written
abbrev pub is_done : ℕ → Bool
is_done status = status == 0 || status == 1

-- a status that comes where an outcome was to be written
abbrev pub is_written : ℕ → Bool
is_written status = is_done status || status == 5 || status == 6

-- a status that comes where the words are a request
abbrev pub is_answer : ℕ → Bool
is_answer status = is_fault status || is_done status || status == 7

-- a status that a run may end with
abbrev pub is_status : ℕ → Bool
is_status status = is_answer status || status == 2

-- how many calls of the folder are made at least where they end early: one, if the folder failed
abbrev pub least_calls : ℕ → ℕ
least_calls status = if status == 3 then 1 else 0

-- The bytes written are from the front of the outcome's. A run without fault has its status and has written all its bytes.
pub record Answers (outcome : Outcome) (status : ℕ) (old new : Option (List ℕ)) : Type 0 where
  pub front : AppendsFront old new outcome.bytes
  pub whole : OnFalse (is_fault status) ((status ≡ outcome.status) × Appends old new outcome.bytes)
