use Rattle.std.proofs.Common.{◌≡◌, ◌≤◌, ◌++◌, drop, length}
use Rattle.tla_text.specs.LineStarts.{starts_after}
use Rattle.tla_text.proofs.lines.push_starts.Given as goal

abbrev pub invariant-ends : goal.invariant-ends
invariant-ends l = record {
  starts : l.starts.items ++ starts_after l.at l.rest ≡ l.fn.starts.items ++ starts_after l.fn.from (drop l.fn.from l.fn.text);
  rest : l.rest ≡ drop l.at l.fn.text;
  low : l.at ≤ l.fn.to;
}

abbrev pub decreases-ends : goal.decreases-ends
decreases-ends l = length l.rest
