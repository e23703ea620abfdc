use Rattle.std.specs.Prelude.{ℕ, List, Bool, drop, slice_get}
use Rattle.tool_io.specs.Cuts.{most_by}
use Rattle.tool_io.specs.Failing.{is_next_due}
use Rattle.tool_io.specs.declared.memory_source.MemorySource.{MemorySource}

-- what is left
abbrev pub source_rest : MemorySource → List ℕ
source_rest s = drop s.at s.bytes

-- the most bytes of the next read
abbrev pub source_most : MemorySource → ℕ
source_most s = most_by (slice_get s.cuts s.failures.calls)

-- the next read fails
abbrev pub fails_read : MemorySource → Bool
fails_read s = is_next_due s.failures
