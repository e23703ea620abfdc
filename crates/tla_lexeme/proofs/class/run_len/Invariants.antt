use Rattle.std.proofs.Common.{◌≡◌, ◌+◌, drop}
use Rattle.std.specs.List.{prefix_len}
use Rattle.tla_lexeme.specs.LexemeSets.{is_in}
use Rattle.tla_lexeme.proofs.class.run_len.Given as goal

abbrev pub invariant-loop-i : goal.invariant-loop-i
invariant-loop-i l = l.i + prefix_len (is_in l.class) (drop l.i l.text) ≡ prefix_len (is_in l.class) l.text
