-- How many frames wait. Each becomes one node at most, so nodes and frames that wait are counted together.
use Rattle.std.specs.Prelude.{ℕ, ◌+◌, List, length, Option, Some, None}
use Rattle.tree_parts.specs.declared.part.Part.{Part}
use Rattle.unit_frames.specs.declared.frame.Frame.{Frame}
use Rattle.unit_steps.specs.declared.point.Point.{Point}
use Rattle.unit_steps.specs.declared.point.Next.{Next}

-- where the reading stands
abbrev pub waiting_at : Point → ℕ
waiting_at (Point.Part unfinished frame) = length unfinished.below.items + 1
waiting_at _ = 0

-- where a lexeme leads
abbrev pub waiting_next : Next → ℕ
waiting_next (Next.At point) = waiting_at point
waiting_next (Next.Awaits unfinished) = length unfinished.below.items
waiting_next (Next.Begins unfinished first) = length unfinished.below.items
waiting_next (Next.Bounds unfinished frame) = length unfinished.below.items + 1

-- none where the lexeme is refused
abbrev pub waiting : Option Next → ℕ
waiting None = 0
waiting (Some next) = waiting_next next

-- once frames have ended: those below and the one that is left, or none where the outermost has ended
abbrev pub waiting_ended : List Frame → Option Part → ℕ
waiting_ended below None = length below + 1
waiting_ended below (Some part) = 0
