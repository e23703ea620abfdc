use Rattle.std.proofs.Common.{◌≡◌, ◌+◌, ◌-◌, ◌++◌, map, take}
use Rattle.tla_text.proofs.lines.push_moved.Given as goal

abbrev pub invariant-loop-offset : goal.invariant-loop-offset
invariant-loop-offset l = l.starts.items ≡ l.fn.starts.items ++ map (λ offset. offset - l.fn.from + l.fn.to) (take l.offset-index l.fn.offsets)
