use Rattle.std.proofs.Common.{length, ◌-◌, ◌↔◌, ◌≤◌, drop}
use Rattle.unit_grammar.specs.FirstBad.{EndsOnce}
use Rattle.unit_frames.proofs.ending.ends_once.Given as goal

abbrev pub invariant-loop-index : goal.invariant-loop-index
invariant-loop-index l = record {
  within : l.index ≤ length l.lexemes;
  same : EndsOnce l.lexemes ↔ EndsOnce (drop l.index l.lexemes);
}

abbrev pub decreases-loop-index : goal.decreases-loop-index
decreases-loop-index l = length l.lexemes - l.index
