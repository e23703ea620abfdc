use Rattle.std.proofs.Common.{◌≡◌, ◌≤◌, length, take}
use Rattle.std.specs.Prelude.{reverse}
use Rattle.expr_parse.specs.Ending.{all_end}
use Rattle.expr_parse.proofs.ending.all_end.Given as goal

abbrev pub invariant-loop-open : goal.invariant-loop-open
invariant-loop-open l = record {
  below : l.open ≤ length l.frames;
  same : all_end l.goal (reverse (take l.open l.frames)) l.shape ≡ all_end l.goal (reverse l.frames) l.fn.last;
}

abbrev pub decreases-loop-open : goal.decreases-loop-open
decreases-loop-open l = l.open
