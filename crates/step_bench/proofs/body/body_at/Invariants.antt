use Rattle.std.proofs.Common.{◌≡◌, ◌-◌, ◌≤◌, length, drop}
use Rattle.step_bench.specs.Bodies.{body_at}
use Rattle.step_bench.proofs.body.body_at.Given as goal

abbrev pub invariant-loop-index : goal.invariant-loop-index
invariant-loop-index l = record {
  within : l.index ≤ length l.lexemes;
  same : body_at 0 l.lexemes ≡ body_at l.index (drop l.index l.lexemes);
}

abbrev pub decreases-loop-index : goal.decreases-loop-index
decreases-loop-index l = length l.lexemes - l.index
